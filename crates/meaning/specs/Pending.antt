-- Pending instructions (document 02, request d; source document 004, example 6): what S keeps, what the start of a day
-- makes of a kept instruction, and what a release leaves. Each is a definition over one instruction, the day and the
-- lone book. No line is read as S, W or L yet. Assumes nothing.
use Rattle.std.specs.Prelude.{ℕ, zero, suc, Bool, not, cond, ◌&&◌, ◌||◌, List, [], ◌∷◌, eqb, Option, Some, None}
use Rattle.tables.specs.Count.{has, keep}
use Rattle.meaning.specs.Text.{same}
use Rattle.meaning.specs.Records.{TypeRecord, Kept, Book, Question, negative, validation_hold, party_hold}
use Rattle.meaning.specs.Keys.{is_kept}
use Rattle.meaning.specs.Judging.{covers, rule_applies, rejected, judged}
use Rattle.meaning.specs.Scope.{Scope, scoped, is_new, only_new}
use Rattle.meaning.specs.Status.{is_on}
use Rattle.meaning.specs.declared.Deciding.{Deciding}
use Rattle.meaning.specs.declared.Verdict.{Verdict}

-- ---- the types remembered

-- so many numbers, from n on
unfoldable pub numbers_from : ℕ → ℕ → List ℕ
numbers_from n zero = []
numbers_from n (suc k) = n ∷ numbers_from (suc n) k

-- the numbers that a type may have
unfoldable pub type_numbers : List ℕ
unfolding numbers_from
type_numbers = numbers_from 1 99

-- those of them that pass a test, each once, rising
unfoldable pub types_which : (ℕ → Bool) → List ℕ
unfolding keep
types_which p = keep p type_numbers

-- whether a number is in a list
unfoldable pub among : List ℕ → ℕ → Bool
unfolding has
among l n = has (λ m. eqb m n) l

-- a list of such numbers, each once, rising: what its own test leaves of them
unfoldable pub are_types : List ℕ → Bool
unfolding types_which among
are_types l = same (types_which (among l)) l

-- ---- its holds

-- the day since which the hold of that processing is on; 0 where it is off, and for rejection, which is no hold
unfoldable pub held_since : Kept → ℕ → ℕ
held_since k processing =
    cond (eqb processing validation_hold) k.validating (cond (eqb processing party_hold) k.holding 0)

unfoldable pub is_held : Kept → ℕ → Bool
unfolding held_since
is_held k processing = not (eqb (held_since k processing) 0)

-- the kept instruction of that reference, with that hold on
unfoldable pub held_by : ℕ → ℕ → Kept → Bool
unfolding is_kept is_held
held_by reference hold k = is_kept reference k && is_held k hold

-- ---- what it meets

-- the question that a kept instruction is on a day
abbrev pub asking : ℕ → Kept → Question
asking day k = record {
  day = day;
  object = k.object;
  party_type = k.party_type;
  movement = k.movement;
  payment = k.payment;
  transaction = k.transaction;
  currency = k.currency;
  party = k.party;
  account = k.account;
  security = k.security;
}

-- a current type of the question's object, of which a current negative rule matches
unfoldable pub exempts : Book → Question → TypeRecord → Bool
unfolding has rule_applies
exempts b q t =
    eqb t.object q.object && covers t.first t.last q.day && has (rule_applies b q t.type negative) b.rules

-- whether a type of that number does
unfoldable pub exempted : Book → Question → ℕ → Bool
unfolding has exempts
exempted b q type = has (λ t. eqb t.type type && exempts b q t) b.types

-- 'A positive hold rule is passed over where that hold is on, any rule where a negative one of its type matched at S or
-- a W sent before': the type counts neither for its hold nor for a rejection
unfoldable pub passed_over : Kept → TypeRecord → Bool
unfolding among is_held
passed_over k t = among k.remembered t.type || is_held k t.processing

-- the rules that are new on that day, of the types that are not passed over
abbrev pub at_start : Book → ℕ → Kept → Scope
at_start b day k = record { types = λ t. not (passed_over k t); rules = is_new b day }

-- ---- what becomes of it

-- the day of a hold: this day where a rule puts it on, else as before
abbrev pub since : ℕ → ℕ → Option Deciding → ℕ
since day before d = cond (is_on d) day before

-- An instruction that is not rejected: each hold that the verdict puts on bears the day, and the types exempted are
-- remembered with those that were.
unfoldable pub met : Verdict → (ℕ → Bool) → ℕ → Kept → Kept
unfolding types_which among
met v exempt day k = record {
  reference = k.reference;
  object = k.object;
  party_type = k.party_type;
  movement = k.movement;
  payment = k.payment;
  transaction = k.transaction;
  currency = k.currency;
  party = k.party;
  account = k.account;
  security = k.security;
  validating = since day k.validating v.validation;
  holding = since day k.holding v.party;
  remembered = types_which (λ n. among k.remembered n || exempt n);
}

-- S, before it meets a rule: no hold is on and no type is remembered
abbrev pub fresh : ℕ → Question → Kept
fresh reference q = record {
  reference = reference;
  object = q.object;
  party_type = q.party_type;
  movement = q.movement;
  payment = q.payment;
  transaction = q.transaction;
  currency = q.currency;
  party = q.party;
  account = q.account;
  security = q.security;
  validating = 0;
  holding = 0;
  remembered = [];
}

-- 'if accepted it is kept with its holds': what S keeps, unless it is rejected
unfoldable pub entered : Book → ℕ → Question → Kept
unfolding met judged exempted
entered b reference q = met (judged b q) (exempted b q) q.day (fresh reference q)

-- what the start of a day judges
unfoldable pub start_verdict : Book → ℕ → Kept → Verdict
unfolding judged scoped is_new passed_over
start_verdict b day k = judged (scoped (at_start b day k) b) (asking day k)

-- the types of which a new negative rule matches, also where their hold is on
unfoldable pub start_exempted : Book → ℕ → Kept → ℕ → Bool
unfolding exempted scoped is_new
start_exempted b day k = exempted (scoped (only_new b day) b) (asking day k)

-- W, of one kept instruction: a rejection cancels it
unfoldable pub started : Book → ℕ → Kept → Option Kept
unfolding met start_verdict start_exempted
started b day k =
    cond (rejected (start_verdict b day k)) None (Some (met (start_verdict b day k) (start_exempted b day k) day k))

-- L: the hold of that processing is off
unfoldable pub released : ℕ → Kept → Kept
released hold k = record {
  reference = k.reference;
  object = k.object;
  party_type = k.party_type;
  movement = k.movement;
  payment = k.payment;
  transaction = k.transaction;
  currency = k.currency;
  party = k.party;
  account = k.account;
  security = k.security;
  validating = cond (eqb hold validation_hold) 0 k.validating;
  holding = cond (eqb hold party_hold) 0 k.holding;
  remembered = k.remembered;
}
