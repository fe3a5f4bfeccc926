-- T and E leave the types good, and every rule its type.
use Rattle.std.proofs.Common.{ℕ, ◌<◌, ◌≡◌, true, false, not, ◌&&◌, ◌∷◌, eqb, ltb, length, le-leb, ltb-false}
use Rattle.tables.specs.Count.{has, change}
use Rattle.tables.proofs.Counts.{neither, ands}
use Rattle.tables.proofs.Lists.{every_map}
use Rattle.meaning.specs.Forms.{holds, day, processing_form}
use Rattle.meaning.specs.Records.{TypeRecord, Book, type_quota}
use Rattle.meaning.specs.Keys.{is_type}
use Rattle.meaning.specs.Refusals.{outside, type_outside}
use Rattle.meaning.specs.Edits.{type_until, with_types}
use Rattle.meaning.specs.Sound.{days_fit, key_fits, type_fits}
use Rattle.meaning.proofs.Listed.{has_more, has_change, listed_added, listed_changed}
use Rattle.meaning.proofs.Good.{its_type, Lists}
use Rattle.meaning.proofs.Changed.{types_changed}

-- days with another last day
pub days_until : (first last new : ℕ) → days_fit first last ≡ true → holds day new ≡ true
    → outside new first last ≡ false → days_fit first new ≡ true
unfolding days_fit
days_until first last new e f k =
    let a : holds day first ≡ true = search ands in
    rw (a, f) (le-leb first new (ltb-false new first (neither (ltb new first) (ltb last new) k).0))

type_until_lem : (n o last : ℕ) → holds day last ≡ true → (t : TypeRecord) → is_type n o t ≡ true
    → type_outside n o last t ≡ false → type_fits t ≡ true → type_fits (type_until last t) ≡ true
unfolding type_fits type_outside
type_until_lem n o last f t z k h =
    let a : key_fits t.type t.object ≡ true = search ands in
    let p : holds processing_form t.processing ≡ true = search ands in
    let c : not (eqb t.processing 3 && eqb t.object 2) ≡ true = search ands in
    rw (a, p, c) (days_until t.first t.last last (search ands) f (rw z at k))

module _ (b : Book) (g : Lists b) where
  pub type_added : (t : TypeRecord) → type_fits t ≡ true → has (is_type t.type t.object) b.types ≡ false
      → length b.types < type_quota → Lists (with_types (t ∷ b.types) b)
  type_added t f n room =
      types_changed b g (listed_added g.types t f n room)
      (every_map _ _ b.rules g.typed (λ r. has_more (its_type r) t b.types))

  -- a type keeps its key
  pub type_ended_lem : (n o last : ℕ) → holds day last ≡ true → has (type_outside n o last) b.types ≡ false
      → Lists (with_types (change (is_type n o) (type_until last) b.types) b)
  unfolding is_type
  type_ended_lem n o last f e =
      types_changed b g
      (listed_changed g.types (is_type n o) (type_outside n o last) (type_until last) e (type_until_lem n o last f)
      (λ x y z a c h. h) (λ x y z w a c h. h))
      (every_map _ _ b.rules g.typed
      (λ r h. has_change (is_type n o) (type_until last) (its_type r) (its_type r) b.types h (λ t z i. i) (λ t z i. i)))
