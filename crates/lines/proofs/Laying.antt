-- Bytes put into a space.
use Prim.Native.Nat.{ℕ, zero, suc, ◌+◌, ◌-◌, min}
use mathlib.Core.Path.{◌≡◌, refl, ap, ◌∙◌}
use mathlib.Core.List.{List, [], ◌∷◌, ◌++◌}
use native.Mathlib.Omega.{arith}
use lib.ListN.{length, take, drop, length-take, length-drop}
use lib.Seq.{take_all}
use borrow.Rule.Slice.PartMut.{put_mid}
use Rattle.std.specs.List.{copy_within}
use Rattle.std.proofs.lemmas.List.{drop_min}
use Rattle.std.proofs.lemmas.List.Edits.{length-paste}
use Rattle.std.proofs.lemmas.Slice.{put_mid-paste}
use Rattle.lines.specs.Ended.{short}
use Rattle.lines.specs.Many.{laid}
use Rattle.lines.specs.Keeping.{part, Keeps}

-- ---- bytes put into a part of a space

pub laid_part : (o ys t : List ℕ) (at k : ℕ) → ys ≡ t → k ≡ length t → put_mid at k o ys ≡ laid o at t
unfolding laid
laid_part o ys t at k e h =
    put_mid-paste at k o ys t k e refl h
    ∙ ap (λ z. take at o ++ z ++ drop (at + k) o) (take_all k t (omega arith))
    ∙ ap (λ n. take at o ++ t ++ drop (at + n) o) h

-- ---- the begun line moved to the front

-- a part of a part that begins with it
prefix : (i j : ℕ) (l : List ℕ) → take (length (take i (take j l))) l ≡ take i (take j l)
prefix zero j l = refl
prefix (suc i) zero l = refl
prefix (suc i) (suc j) [] = refl
prefix (suc i) (suc j) (c ∷ l) = ap (λ z. c ∷ z) (prefix i j l)

module _ (d : List ℕ) (from to : ℕ) where
  abbrev s : List ℕ
  s = short (part d from to)

  sizes : length s ≡ min 81 (min (to - from) (length d - from))
  sizes = length-take 81 (part d from to) ∙ ap (min 81) (length-take (to - from) (drop from d) ∙ ap (min (to - from)) (length-drop from d))

  pub kept : {e f m n : ℕ} {o : List ℕ} → n ≡ min m 81 → m ≡ e - f → e ≡ min to (length d) → f ≡ min from (length d)
      → o ≡ copy_within d f (f + n) 0 → Keeps d from to n o
  unfolding laid
  kept {e} {f} {m} {n} h g b a i =
      let z : f + n - f ≡ length s = omega (arith, sizes) in
      let y : drop f d ≡ drop from d = rw (a, drop_min) in
      record {
        whole = rw (i, z, y, prefix 81 (to - from) (drop from d));
        kept = omega (arith, sizes);
        few = omega arith;
        inside = rw i (omega (arith, length-paste d 0 (drop f d) (f + n - f) (omega arith) (omega (arith, length-drop f d))));
      }
