-- The desk's loop hands an input in pieces to `lines`.
use Prim.Native.Nat.{ℕ, ◌+◌, ◌≤◌}
use mathlib.Core.Path.{◌≡◌, sym, ap, ◌∙◌}
use mathlib.Core.Bool.{cond}
use mathlib.Core.List.{List, [], ◌∷◌, ◌++◌, append-nil}
use native.Mathlib.Omega.{arith}
use native.Mathlib.Nat.{add-zero}
use lib.ListN.{length, take, drop, length-take, length-drop}
use lib.Seq.{length-take-le, take-add}
use borrow.Author.Tests.{eq-eqb}
use Rattle.std.specs.Prelude.{Some, Result, Ok, Err, OnOk}
use Rattle.std.proofs.lemmas.Result.{on_ok_weaker}
use Rattle.meaning.specs.declared.Refusal.{Refusal}
use Rattle.meaning.specs.declared.Refusal.TheVariants.{UnsoundBook}
use Rattle.places.specs.Layout.{book_size}
use Rattle.book.specs.Emptied.{empty_answer, Emptied}
use Rattle.lines.specs.Ended.{begun}
use Rattle.lines.specs.Pieces.{at_first, Piece}
use Rattle.lines.specs.Whole.{Fed, last, more}
use Rattle.lines.specs.declared.Desk.{Desk}
use Rattle.lines.proofs.WholeText.{desk_alone}
use Rattle.desk.specs.Loop.{Behind, Hands, Ends, Input, OneInput}

-- what is handed from here on goes on with what was handed before
pub record Going (b₀ t₀ b t : List ℕ) (d : Desk) : Type 0 where
  pub on : (pieces : List (List ℕ)) (written after : List ℕ) → Fed d b t pieces written after → Input b₀ t₀ after
  pub held : d.held ≤ 81

pub going_first : (b t : List ℕ) {d : Desk} → d ≡ at_first b → Going b t b t d
going_first b t e = record {
  on = λ ps w a f. record { pieces = ps; written = w; fed = rw (← e) f };
  held = rw e (omega arith);
}

on_ok : {X E P : Type 0} (r : Result X E) → P → OnOk r P
on_ok (Ok x) p = p
on_ok (Err e) p = tt

-- what was read behind the bytes that are held
module _ {b₀ t₀ b t t₁ : List ℕ} {d : Desk} {n : ℕ} (g : Going b₀ t₀ b t d) (h : Behind d.held t (Ok n) t₁) where
  -- no byte came: the end of input
  pub going_end : {X E : Type 0} {b' : List ℕ} (r : Result X E) → n ≡ 0 → Ends d b t₁ b' → OnOk r (Input b₀ t₀ b')
  going_end {X} {E} {b'} r z e =
      on_ok r
      (g.on [] (take e.step.written e.out') b'
      (last (ap (λ k. take k t₁) (add-zero d.held) ∙ h.front ∙ sym (append-nil (take d.held t))) e.end))

  -- the bytes that came are the next piece
  pub going_on : {d' : Desk} {b' t' : List ℕ} → (n ≡ 0 → ⊥) → Hands d n b t₁ (Ok d') b' t' → Going b₀ t₀ b' t' d'
  going_on {d'} {b'} {t'} f i =
      let piece = take n (drop d.held t₁) in
      let r = i.step in
      let m : length piece ≡ n = length-take-le n (drop d.held t₁) (omega (arith, length-drop d.held t₁, h.inside)) in
      let read : take (d.held + length piece) t₁ ≡ take d.held t ++ piece =
      ap (λ k. take (d.held + k) t₁) m ∙ take-add d.held n t₁ ∙ ap (λ k. k ++ piece) h.front in
      let came : Piece d (length piece) b t₁ i.out (Some r) b' t' i.out' = rw m i.piece in
      let e = ap (λ k. k.held) (i.desk ∙ i.piece.takes.desk) in
      record {
        on = λ ps w a f. g.on (piece ∷ ps) (take r.written i.out' ++ w) a (more read came (rw i.desk at f));
        held = omega (arith, e, length-take 81 (begun (take (d.held + n) t₁)));
      }

-- ---- an input over a book that was emptied

pub one_input : {X E : Type 0} {lent emptied : List ℕ} {r : Result (Unit {0}) Refusal} (text after : List ℕ) (s : Result X E) → OnOk s (Input emptied text after)
    → Emptied lent emptied r → length lent ≡ book_size → OnOk s (OneInput lent text after)
unfolding empty_answer
one_input {X} {E} {lent} {emptied} {r} text after s f e n =
    let z : r ≡ Ok tt = e.answered ∙ ap (λ q. cond q (Ok tt) (Err UnsoundBook)) (eq-eqb (length lent) book_size n) in
    let e' : Emptied lent emptied (Ok tt) = rw z at e in
    on_ok_weaker s
    (λ (input : Input emptied text after). record {
      start = emptied;
      emptied = e';
      input = input;
      alone = desk_alone lent emptied e' text input.pieces input.written after input.fed;
    })
    f
