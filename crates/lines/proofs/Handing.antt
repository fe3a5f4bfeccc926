-- What each return of the desk's functions shows.
use Prim.Native.Nat.{ℕ, zero, suc, ◌+◌, ◌-◌, ◌*◌, ◌/◌, ◌≤◌, min}
use mathlib.Core.Path.{◌≡◌, refl, sym, ap, ◌∙◌}
use mathlib.Core.Bool.{Bool, true, false, not}
use mathlib.Core.List.{List, [], ◌∷◌, ◌++◌, append-nil}
use native.Mathlib.Omega.{arith}
use lib.Dec.{leb}
use lib.ListN.{length, take, drop, length-take}
use lib.Seq.{take_all, length-take-le}
use borrow.Author.Tests.{leb-true, leb-false, le-leb, lt-leb, not-true, not-false}
use Rattle.std.specs.Prelude.{Some, None}
use Rattle.std.proofs.lemmas.List.{take_min}
use Rattle.tables.proofs.Counts.{cases}
use Rattle.meaning.specs.Desk.{output}
use Rattle.answering.specs.Taking.{answer_by}
use Rattle.meaning.specs.declared.Sent.TheVariants.{Alone}
use Rattle.lines.specs.Ended.{ended, begun, last_line, short}
use Rattle.lines.specs.Keeping.{part, Keeps}
use Rattle.lines.specs.Many.{answers_by, book_by, bytes_in, laid, written_as, one, standing, Turn, AnsweredBy}
use Rattle.lines.specs.Pieces.{room_for, Steps}
use Rattle.lines.specs.declared.Desk.{Desk}
use Rattle.lines.specs.declared.Progress.{Progress}
use Rattle.lines.proofs.BegunLine.{begun_behind}
use Rattle.lines.proofs.Steps.{laid_none, output_more, Came, came}

-- ---- how many bytes stand

pub each_fits : (o : List ℕ) (n : ℕ) {t : Bool} → t ≡ leb n (length o / 33) → t ≡ leb (33 * n) (length o)
each_fits o n e =
    cases (leb n (length o / 33))
    (λ x. e ∙ x ∙ sym (le-leb (33 * n) (length o) (omega (arith, leb-true n (length o / 33) x))))
    (λ x. e ∙ x ∙ sym (lt-leb (33 * n) (length o) (omega (arith, leb-false n (length o / 33) x))))

module _ (k : ℕ) {n : ℕ} (text : List ℕ) (m : n ≡ min k (length text)) where
  pub stand_size : n ≡ length (take n text)
  stand_size = sym (length-take-le n text (omega arith))

  same_bytes : take n text ≡ take k text
  same_bytes = rw (m, take_min)

  room_said : (o : List ℕ) {q : Bool} → q ≡ leb (33 * n) (length o) → q ≡ room_for (take k text) o
  room_said o e = e ∙ ap (λ i. leb (33 * i) (length o)) (m ∙ sym (length-take k text))

-- ---- no room: nothing is done

module _ {d : Desk} {b text o : List ℕ} {lines : List (List ℕ)} {kept : List ℕ} (k : ℕ) {n : ℕ} {q : Bool} where
  pub left : n ≡ min k (length text) → q ≡ leb (33 * n) (length o) → not q ≡ true
      → Steps (take k text) lines kept d b text o None b text o
  left m e f = record {
    room = sym (not-true q f) ∙ room_said k text m o e;
    takes = tt;
    leaves = record { book = refl; out = refl; text = refl };
  }

-- ---- a piece: where there is room, every ended line is answered

bytes_both : (ls ms : List (List ℕ)) → bytes_in (ls ++ ms) ≡ bytes_in ls + bytes_in ms
unfolding bytes_in
bytes_both [] ms = omega arith
bytes_both (l ∷ ls) ms = omega (arith, bytes_both ls ms)

none_left : (rest done : List (List ℕ)) (t o : List ℕ) (read written : ℕ) → ended t ≡ done ++ rest → read ≡ bytes_in done
    → written ≤ 33 * read
    → 33 * length t ≤ length o → ((rest ≡ [] → ⊥) → leb (written + 33) (length o) ≡ false) → rest ≡ []
unfolding bytes_in
none_left [] done t o read written a e n h f = refl
none_left (l ∷ ls) done t o read written a e n h f =
    let s = ap bytes_in a ∙ bytes_both done (l ∷ ls) in
    let g = f (λ z. let y : suc (length ls) ≡ 0 = ap length z in omega arith) in
    absurd (omega (arith, s, (begun_behind t).1, leb-false (written + 33) (length o) g))

part_behind : (text : List ℕ) (from n : ℕ) → part text from n ≡ drop from (take n text)
part_behind text zero n = let e : n - 0 ≡ n = omega arith in rw e
part_behind text (suc from) zero = let e : 0 - suc from ≡ 0 = omega arith in rw e
part_behind [] (suc from) (suc n) = take_all (suc n - suc from) [] (omega arith)
part_behind (x ∷ text) (suc from) (suc n) = let e : suc n - suc from ≡ n - from = omega arith in rw e (part_behind text from n)

record All (s : Bool) (b t o b' o' : List ℕ) (p : Progress) : Type 0 where
  pub book : b' ≡ book_by Alone s b (ended t)
  pub out : o' ≡ laid o 0 (output (answers_by Alone s b (ended t)))
  pub written : p.written ≡ length (output (answers_by Alone s b (ended t)))
  pub read : p.read ≡ bytes_in (ended t)

module _ {s : Bool} {b t o b' o' : List ℕ} {p : Progress} where
  all_came : Came s (ended t) (standing b o 0 0) (standing b' o' p.read p.written) → p.written ≤ 33 * p.read
      → 33 * length t ≤ length o' → All s b t o b' o' p
  all_came c n h =
      let r = none_left c.rest c.done t o' p.read p.written c.all (omega (arith, c.read)) n h c.stops in
      let e : c.done ≡ ended t = sym (c.all ∙ ap (λ z. c.done ++ z) r ∙ append-nil c.done) in
      record {
        book = c.book ∙ ap (book_by Alone s b) e;
        out = c.out ∙ ap (λ ls. laid o 0 (output (answers_by Alone s b ls))) e;
        written = omega (arith, c.written) ∙ ap (λ ls. length (output (answers_by Alone s b ls))) e;
        read = omega (arith, c.read) ∙ ap bytes_in e;
      }

module _ {d : Desk} {b text o b' text' o' : List ℕ} (k : ℕ) {n h : ℕ} {q : Bool} {p : Progress} where
  pub piece : n ≡ min k (length text) → q ≡ leb (33 * n) (length o) → not q ≡ false
      → AnsweredBy d.sound b (take n text) o p b' o'
      → length o' ≡ length o → Keeps text p.read n h text'
      → Steps (take k text) (ended (take k text)) (short (begun (take k text))) d b text o (Some (record { desk = record { held = h; sound = d.sound }; written = p.written })) b' text' o'
  piece m e f a z g =
      let t = take n text in
      let y = not-false q f in
      let i = all_came (came d.sound b t o b' o' p a) a.narrow (omega (arith, stand_size k text m, leb-true (33 * n) (length o) (sym e ∙ y))) in
      let u : part text p.read n ≡ begun t = part_behind text p.read n ∙ ap (λ j. drop j t) i.read ∙ (begun_behind t).0 in
      rw (← same_bytes k text m)
      (record {
        room = sym y ∙ room_said k text m o e ∙ ap (λ j. room_for j o) (sym (same_bytes k text m));
        takes = record {
          book = i.book;
          out = i.out;
          written = i.written;
          text = g.whole ∙ ap (λ j. laid text 0 (short j)) u;
          desk = ap (λ j. record { held = j; sound = d.sound }) (g.kept ∙ ap (λ j. length (short j)) u);
          few = a.few;
        };
        leaves = tt;
      })

-- ---- the end of input

last_some : (t : List ℕ) → (length t ≡ 0 → ⊥) → last_line t ≡ t ∷ []
unfolding last_line
last_some [] f = absurd (f refl)
last_some (c ∷ cs) f = refl

module _ {d : Desk} {b text o : List ℕ} (k : ℕ) {n : ℕ} {q : Bool} (m : n ≡ min k (length text)) (e : q ≡ leb (33 * n) (length o)) (f : not q ≡ false) where
  pub no_line : n ≡ 0
      → Steps (take k text) (last_line (take k text)) [] d b text o (Some (record { desk = record { held = 0; sound = d.sound }; written = 0 })) b text o
  unfolding last_line book_by answers_by output
  no_line g =
      let t : take k text ≡ [] = sym (same_bytes k text m) ∙ ap (λ i. take i text) g in
      record {
        room = sym (not-false q f) ∙ room_said k text m o e;
        takes = rw t (record { book = refl; out = laid_none o 0; written = refl; text = laid_none text 0; desk = refl; few = omega arith });
        leaves = tt;
      }

  pub last_line_lem : {b' o' : List ℕ} {r : ℕ} → (n ≡ 0 → ⊥) → Turn d.sound b (take n text) o 0 r b' o'
      → Steps (take k text) (last_line (take k text)) [] d b text o (Some (record { desk = record { held = 0; sound = d.sound }; written = r })) b' text o'
  unfolding one book_by answers_by output
  last_line_lem {b'} {o'} {r} g u =
      let t = take n text in
      let v = u.turned 0 in
      let a = answer_by Alone d.sound b t in
      let w : output (a ∷ []) ≡ written_as a = output_more a [] ∙ append-nil (written_as a) in
      rw (← same_bytes k text m, last_some t (λ z. g (stand_size k text m ∙ z)))
      (record {
        room = sym (not-false q f) ∙ room_said k text m o e ∙ ap (λ j. room_for j o) (sym (same_bytes k text m));
        takes = record {
          book = sym (ap (λ j. j.book) v);
          out = sym (ap (λ j. j.out) v) ∙ ap (laid o 0) (sym w);
          written = sym (ap (λ j. j.written) v) ∙ omega (arith, ap length w);
          text = laid_none text 0;
          desk = refl;
          few = u.few;
        };
        leaves = tt;
      })
