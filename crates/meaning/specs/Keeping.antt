-- What the start of a day and a release do to a kept instruction (document 02, request d; source document 004, example
-- 6), for the trainer. Stated here, proved in proofs/Keeping. Assumes nothing.
use Rattle.std.specs.Prelude.{ℕ, ◌≡◌, Bool, true, false, ◌&&◌, ◌||◌, eqb, Some}
use Rattle.tables.specs.Count.{has}
use Rattle.meaning.specs.Records.{Rule, Kept, Book, Question}
use Rattle.meaning.specs.Judging.{covers, matches, judged}
use Rattle.meaning.specs.Scope.{whole, scoped, is_new}
use Rattle.meaning.specs.Pending.{are_types, among, held_since, is_held, asking, entered, started, released}

-- A question is judged by the scope that leaves nothing out.
abbrev pub WholeBook : Type 0
WholeBook = (b : Book) (q : Question) → judged (scoped whole b) q ≡ judged b q

-- ---- 'a hold, whatever ends or newly exempts, stays on until line L releases it'

-- No start of day switches a hold off, nor puts it on again: whatever the book and the day, a hold that is on bears the
-- day that it bore, unless the instruction is cancelled.
abbrev pub HoldStays : Type 0
HoldStays =
    (b : Book) (day : ℕ) (k k' : Kept) (hold : ℕ) → started b day k ≡ Some k' → is_held k hold ≡ true
    → held_since k' hold ≡ held_since k hold

-- A hold bears afterwards the day that it bore, or the day of the start.
abbrev pub HoldDays : Type 0
HoldDays =
    (b : Book) (day : ℕ) (k k' : Kept) (hold : ℕ) → started b day k ≡ Some k'
    → (eqb (held_since k' hold) (held_since k hold) || eqb (held_since k' hold) day) ≡ true

-- A release switches that hold off and leaves the other, and what is remembered.
pub record ReleasesOne : Type 0 where
  pub off : (k : Kept) (hold : ℕ) → is_held (released hold k) hold ≡ false
  pub other : (k : Kept) (hold one : ℕ) → eqb hold one ≡ false → held_since (released hold k) one ≡ held_since k one
  pub types : (k : Kept) (hold : ℕ) → (released hold k).remembered ≡ k.remembered

-- ---- 'meets only those current rules whose first current day is this day'

-- a current rule of the instruction's object that is new on the day and matches it
unfoldable pub met_anew : Book → ℕ → Kept → Rule → Bool
unfolding is_new matches
met_anew b day k r =
    is_new b day r && (eqb r.object k.object && covers r.first r.last day && matches b (asking day k) r)

-- An instruction that no new rule matches is left exactly as it was.
abbrev pub LeftAsItWas : Type 0
LeftAsItWas =
    (b : Book) (day : ℕ) (k : Kept) → are_types k.remembered ≡ true → has (met_anew b day k) b.rules ≡ false
    → started b day k ≡ Some k

-- ---- 'any rule where a negative one of its type matched at S or a W sent before'

-- What is remembered stays so, and what S and W leave are lists of types again.
pub record MemoryStays : Type 0 where
  pub stays : (b : Book) (day : ℕ) (k k' : Kept) (type : ℕ) → started b day k ≡ Some k'
      → are_types k.remembered ≡ true → among k.remembered type ≡ true → among k'.remembered type ≡ true
  pub entry : (b : Book) (reference : ℕ) (q : Question) → are_types (entered b reference q).remembered ≡ true
  pub start : (b : Book) (day : ℕ) (k k' : Kept) → started b day k ≡ Some k' → are_types k'.remembered ≡ true
