-- The status, by what the code asks for it: whether nothing rejects, whether a party hold rule decides, whether the
-- hold is wished for.
use mathlib.Core.Path.{◌≡◌}
use mathlib.Core.Bool.{Bool, true, false, not}
use Rattle.std.specs.Prelude.{is_some}
use Rattle.meaning.specs.Status.{wished, status}
use Rattle.meaning.specs.declared.Verdict.{Verdict}
use Rattle.meaning.specs.declared.Wishes.{Wishes}

module _ (v : Verdict) (w : Wishes) {n : Bool} (r : is_some v.rejection ≡ not n) where
  pub by_rule : {p : Bool} → n ≡ true → p ≡ is_some v.party → p ≡ true → p ≡ status v w
  unfolding status
  by_rule a e f = rw (r, a, ← e, f)

  pub by_wish : {p q : Bool} → n ≡ true → p ≡ is_some v.party → p ≡ false → q ≡ wished w → q ≡ status v w
  unfolding status
  by_wish a e f h = rw (r, a, ← e, f, h)

  pub by_rejection : n ≡ false → n ≡ status v w
  unfolding status
  by_rejection a = rw (r, a)
