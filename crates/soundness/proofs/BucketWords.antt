-- Buckets by the words of a place.
use Rattle.std.proofs.Common.{◌≡◌, ℕ, ◌+◌, ◌*◌, ◌/◌, ◌%◌, List}
use Rattle.tables.specs.Bytes.{one, two, three, four, number}
use Rattle.soundness.specs.Reads.{type_read, rule_read, row_read, period_read, eight_at, seven_after}
use Rattle.soundness.specs.Buckets.{key_bucket, type_bucket, rule_bucket, type_bucket_of, rule_bucket_of, wrapped, folded, own_buckets, own_bucket, row_bucket, period_bucket}
use Rattle.soundness.specs.Kinds.{bucket_at}
use Rattle.soundness.specs.Kind as Kinds
use Rattle.soundness.proofs.SameWords.{front_read, middle_read, tail_read}

module _ (b : List ℕ) (at : ℕ) {r k : ℕ} (d : r ≡ key_bucket k) where
  pub type_bucket_lem : k ≡ number three b at 0 → r ≡ bucket_at b Kinds.Types at
  unfolding bucket_at type_bucket type_read
  type_bucket_lem e = rw (d, e)

  pub type_bucket_of_lem : k ≡ number three b at 0 → r ≡ type_bucket_of (rule_read b at)
  unfolding type_bucket_of rule_read
  type_bucket_of_lem e = rw (d, e)

  pub rule_bucket_lem : k ≡ number four b at 0 → r ≡ bucket_at b Kinds.Rules at
  unfolding bucket_at rule_bucket rule_read
  rule_bucket_lem e = rw (d, e)

  pub rule_bucket_of_lem : k ≡ number four b at 0 → r ≡ rule_bucket_of (row_read b at)
  unfolding rule_bucket_of row_read
  rule_bucket_of_lem e = rw (d, e)

pub row_bucket_lem : (b : List ℕ) (at : ℕ) {r c k s front middle tail key : ℕ} → r ≡ own_bucket c (k / 8)
    → c ≡ number one b at 0 → k ≡ key_bucket s → s ≡ folded (wrapped (wrapped (front + middle) + tail)) key → front ≡ seven_after b at 3 → middle ≡ eight_at b at 11
    → tail ≡ seven_after b at 18 → key ≡ number four b at 0 → r ≡ bucket_at b Kinds.Rows at
unfolding bucket_at row_bucket row_read
row_bucket_lem b at d c k s f m t key =
    rw (d, c, k, s, front_read b at f, m, tail_read b at t, key, middle_read b at)

pub period_bucket_lem : (b : List ℕ) (at : ℕ) {r c n k w : ℕ} → r ≡ own_bucket c ((n + k * 85 + w / 100 * 37) % own_buckets)
    → c ≡ number one b at 0 → k ≡ number one b at 1 → n ≡ number three b at 2 → w ≡ number two b at 5
    → r ≡ bucket_at b Kinds.Periods at
unfolding bucket_at period_bucket period_read
period_bucket_lem b at d c k n w = rw (d, c, k, n, w)
