-- `chains::Seen::none` meets its contract. Assumes nothing.
use Prim.Native.Nat.{ℕ}
use lib.ListN.{get_or-replicate, length-replicate}
use Rattle.chains.specs.Sizes.{owners, buckets, most_places}
use Rattle.chains.proofs.Seen.none.Goals as goal

pub returns : goal.returns
returns c = record {
  counts = record { long = length-replicate {A = ℕ} owners 0; each = λ k l. get_or-replicate {A = ℕ} owners k 0 0 l };
  heads = record { long = length-replicate {A = ℕ} buckets 0; each = λ k l. get_or-replicate {A = ℕ} buckets k 0 0 l };
  nexts = record { long = length-replicate {A = ℕ} most_places 0; each = λ k l. get_or-replicate {A = ℕ} most_places k 0 0 l };
}
