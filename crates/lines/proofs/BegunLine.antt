-- The ended lines of a text and the begun one behind them.
use Prim.Native.Nat.{ℕ, zero, suc, ◌+◌, ◌≤◌, ◌<◌}
use mathlib.Core.Path.{◌≡◌, refl, sym, ap, ◌∙◌}
use mathlib.Core.Bool.{Bool, true, false, ◌||◌, false≢true}
use mathlib.Core.List.{List, [], ◌∷◌, ◌++◌}
use native.Mathlib.Omega.{arith}
use lib.Dec.{eqb}
use lib.ListN.{length, take, drop}
use Rattle.tables.specs.Count.{has}
use Rattle.tables.proofs.Counts.{cases}
use Rattle.tables.proofs.Lists.{has_cons}
use Rattle.meaning.specs.Fields.{before}
use Rattle.meaning.specs.Desk.{lines_of}
use Rattle.lines.specs.Ended.{in_front, ended, begun}
use Rattle.lines.specs.Many.{bytes_in}

abbrev pub is_end : ℕ → Bool
is_end d = eqb d 10

-- no byte ends a line
abbrev pub Open : List ℕ → Type 0
Open h = has is_end h ≡ false

or_left : (a b : Bool) → (a || b) ≡ false → a ≡ false
or_left true b e = e
or_left false b e = refl

or_right : (a b : Bool) → (a || b) ≡ false → b ≡ false
or_right true b e = absurd (false≢true (sym e))
or_right false b e = e

module _ (c : ℕ) (cs : List ℕ) where
  pub open_first : Open (c ∷ cs) → is_end c ≡ false
  open_first e = or_left (is_end c) (has is_end cs) (sym (has_cons is_end c cs) ∙ e)

  pub open_rest : Open (c ∷ cs) → Open cs
  open_rest e = or_right (is_end c) (has is_end cs) (sym (has_cons is_end c cs) ∙ e)

  pub open_cons : is_end c ≡ false → has is_end (c ∷ cs) ≡ has is_end cs
  open_cons e = has_cons is_end c cs ∙ ap (λ z. z || has is_end cs) e

pub open_none : Open []
unfolding has
open_none = refl

pub has_behind : (h p : List ℕ) → Open h → has is_end (h ++ p) ≡ has is_end p
has_behind [] p e = refl
has_behind (c ∷ cs) p e = open_cons c (cs ++ p) (open_first c cs e) ∙ has_behind cs p (open_rest c cs e)

pub open_take : (n : ℕ) (h : List ℕ) → Open h → Open (take n h)
open_take zero h e = open_none
open_take (suc n) [] e = open_none
open_take (suc n) (c ∷ cs) e = open_cons c (take n cs) (open_first c cs e) ∙ open_take n cs (open_rest c cs e)

-- ---- the lines of two texts, one behind the other

none_ended : (cs : List ℕ) → Open cs → ended cs ≡ []
unfolding ended
none_ended [] e = refl
none_ended (c ∷ cs) e = rw (open_first c cs e, none_ended cs (open_rest c cs e))

some_front : (c : ℕ) (t : Bool) (ls : List (List ℕ)) → 0 < length ls → 0 < length (in_front t c ls)
some_front c true ls h = omega arith
some_front c false [] h = h
some_front c false (l ∷ ls) h = omega arith

some_ended : (cs : List ℕ) → has is_end cs ≡ true → 0 < length (ended cs)
unfolding ended
some_ended [] e = absurd (false≢true (sym open_none ∙ e))
some_ended (c ∷ cs) e =
    cases (is_end c)
    (λ t. rw t (omega arith))
    (λ t. rw t (some_front c false (ended cs) (some_ended cs (sym (open_cons c cs t) ∙ e))))

front : (c : ℕ) (ls ms : List (List ℕ)) → 0 < length ls → before false c (ls ++ ms) ≡ in_front false c ls ++ ms
front c [] ms h = absurd (omega arith)
front c (l ∷ ls) ms h = refl

pub begun_open : (t : List ℕ) → Open (begun t)
unfolding begun
begun_open [] = open_none
begun_open (c ∷ cs) = cases (has is_end (c ∷ cs)) (λ e. rw e (begun_open cs)) (λ e. rw e e)

pub lines_behind : (t u : List ℕ) → lines_of (t ++ u) ≡ ended t ++ lines_of (begun t ++ u)
unfolding lines_of ended begun
lines_behind [] u = refl
lines_behind (c ∷ cs) u =
    cases (is_end c)
    (λ e. rw (has_cons is_end c cs, e, lines_behind cs u))
    (λ e.
    cases (has is_end cs)
    (λ s. rw (open_cons c cs e, s, e, lines_behind cs u) (front c (ended cs) (lines_of (begun cs ++ u)) (some_ended cs s)))
    (λ s. rw (open_cons c cs e, s, e, none_ended cs s)))

-- ---- the ended lines and the begun one are the whole text

front_size : (c : ℕ) (ls : List (List ℕ)) → 0 < length ls → bytes_in (in_front false c ls) ≡ suc (bytes_in ls)
unfolding bytes_in
front_size c [] h = absurd (omega arith)
front_size c (l ∷ ls) h = omega arith

-- behind the bytes of the ended lines stands the begun one
pub begun_behind : (t : List ℕ) → (drop (bytes_in (ended t)) t ≡ begun t) × (bytes_in (ended t) ≤ length t)
unfolding bytes_in ended begun
begun_behind [] = (refl, omega arith)
begun_behind (c ∷ cs) =
    let i = begun_behind cs in
    cases (is_end c)
    (λ e.
    let n : 1 + bytes_in (ended cs) ≡ suc (bytes_in (ended cs)) = omega arith in
    (rw (has_cons is_end c cs, e, n) i.0, rw e (omega (arith, i.1))))
    (λ e.
    cases (has is_end cs)
    (λ s.
    let n = front_size c (ended cs) (some_ended cs s) in
    (rw (open_cons c cs e, s, e, n) i.0, rw (e, n) (omega (arith, i.1))))
    (λ s. (rw (open_cons c cs e, s, e, none_ended cs s), rw (e, none_ended cs s) (omega arith))))
