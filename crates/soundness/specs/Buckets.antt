-- The bucket of a record: a number below 2048, whatever the bytes, computed from what two records that clash have in
-- common. A row's and a period's has its depository as a part, so that no chain is longer than a quota. Assumes
-- nothing.
use Rattle.std.specs.Prelude.{ℕ, ◌+◌, ◌*◌, ◌/◌, ◌%◌, List, slice_index}
use Rattle.places.specs.declared.RestrictionType.{RestrictionType}
use Rattle.places.specs.declared.Rule.{Rule}
use Rattle.places.specs.declared.Row.{Row}
use Rattle.places.specs.declared.Period.{Period}

-- how many chains a table has
abbrev pub chain_heads : ℕ
chain_heads = 2048

-- a multiple of a prime near 2 ^ 32 divided by the golden ratio, of which some of the high bits are taken
unfoldable pub key_bucket : ℕ → ℕ
key_bucket key = key * 2654435761 / 2097152 % chain_heads

-- the keys of a type and of a rule, with their depository, as they stand in the bytes
abbrev pub type_key : ℕ → ℕ → ℕ → ℕ
type_key csd number object = csd + 256 * number + 65536 * object

abbrev pub rule_key : ℕ → ℕ → ℕ → ℕ → ℕ
rule_key csd number object sequence = csd + 256 * number + 65536 * object + 16777216 * sequence

unfoldable pub type_bucket : RestrictionType → ℕ
unfolding key_bucket
type_bucket t = key_bucket (type_key t.csd t.number t.object)

unfoldable pub rule_bucket : Rule → ℕ
unfolding key_bucket
rule_bucket t = key_bucket (rule_key t.csd t.number t.object t.sequence)

-- those of a rule's type and of a row's rule

unfoldable pub type_bucket_of : Rule → ℕ
unfolding key_bucket
type_bucket_of t = key_bucket (type_key t.csd t.number t.object)

unfoldable pub rule_bucket_of : Row → ℕ
unfolding key_bucket
rule_bucket_of t = key_bucket (rule_key t.csd t.number t.object t.sequence)

-- a row's values as three numbers: 0 to 3, 4 to 6, 7 to 9

unfoldable pub front_word : List ℕ → ℕ
front_word v = slice_index v 0 + 256 * slice_index v 1 + 65536 * slice_index v 2 + 16777216 * slice_index v 3

unfoldable pub middle_word : List ℕ → ℕ
middle_word v = slice_index v 4 + 16777216 * slice_index v 5 + 281474976710656 * slice_index v 6

unfoldable pub tail_word : List ℕ → ℕ
tail_word v = slice_index v 7 + 65536 * slice_index v 8 + 4294967296 * slice_index v 9

-- a sum in 64 bits
abbrev pub wrapped : ℕ → ℕ
wrapped sum = sum % 18446744073709551616

-- a sum of 64 bits as one of 32 bits, and a key more
abbrev pub folded : ℕ → ℕ → ℕ
folded sum key = (sum % 4294967296 + sum / 4294967296 + key) % 4294967296

-- how many buckets a depository has, and one of them
abbrev pub own_buckets : ℕ
own_buckets = 256

abbrev pub own_bucket : ℕ → ℕ → ℕ
own_bucket csd k = csd % 8 * own_buckets + k

unfoldable pub row_bucket : Row → ℕ
unfolding key_bucket front_word middle_word tail_word
row_bucket t =
    own_bucket t.csd
    (key_bucket
    (folded (wrapped (wrapped (front_word t.values + middle_word t.values) + tail_word t.values))
    (rule_key t.csd t.number t.object t.sequence))
    / 8)

unfoldable pub period_bucket : Period → ℕ
period_bucket t = own_bucket t.csd ((t.number + t.kind * 85 + t.code / 100 * 37) % own_buckets)
