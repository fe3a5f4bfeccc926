-- The bytes that numbers are stored as.
use Rattle.std.specs.Prelude.{ℕ, List, [], ◌∷◌, ◌++◌}
use Rattle.tables.specs.Bytes.{one, two, three, four, digits}
use Rattle.stores.specs.declared.Number.{Number}
use Rattle.stores.specs.declared.Number.TheVariants.{One, Two, Three, Four}

-- of one number
unfoldable pub bytes : Number → List ℕ
bytes (One v) = digits one v
bytes (Two v) = digits two v
bytes (Three v) = digits three v
bytes (Four v) = digits four v

-- of several, one behind the other
unfoldable pub all_bytes : List Number → List ℕ
all_bytes [] = []
all_bytes (n ∷ ns) = bytes n ++ all_bytes ns
