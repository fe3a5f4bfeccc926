-- Over a sound lone book, the types exempted by a scope are those of the lone book in which only the rules that count
-- are, as the written meaning says.
use Rattle.std.proofs.Common.{ℕ, ◌≡◌, ap, sym, ◌∙◌, Bool, true, ◌&&◌, List, arith, eqb}
use mathlib.Core.Path.{fun_ext}
use mathlib.Core.Bool.{and_comm}
use Rattle.tables.specs.Count.{has}
use Rattle.tables.proofs.Lists.{has_among}
use Rattle.tables.proofs.Below.{any_same, has_lone}
use Rattle.tables.proofs.Keying.{keys_all}
use Rattle.meaning.specs.Records as M
use Rattle.meaning.specs.Records.{negative}
use Rattle.meaning.specs.Judging.{covers, rule_applies}
use Rattle.meaning.specs.Scope.{Scope, scoped}
use Rattle.meaning.specs.Pending.{exempts, exempted}
use Rattle.meaning.specs.Sound.{sound_lone}
use Rattle.places.specs.Layout.{type_places, type_at}
use Rattle.records.specs.Said.{type_of}
use Rattle.book.specs.Lone.{types_of, lone_book}
use Rattle.commands.specs.Asked.{question_of}
use Rattle.commands.specs.declared.Question.{Question}
use Rattle.matching.proofs.Ranged.{ranged}
use Rattle.newrules.proofs.NewRight.{type_low}
use Rattle.judge.specs.Stages.{type_numbers, signs_matched, type_exempted, types_exempted}
use Rattle.judge.specs.Within.{rows_within, exempted_within, ExemptedWithin}
use Rattle.judge.proofs.RulesRight.{Marks, signs}
use Rattle.judge.proofs.VerdictRight.{counted_right}

-- By the rules that count, of which every type has its own.
module _ (b : List ℕ) (q : Question) (z : sound_lone (lone_book q.csd b) ≡ true) (marks : ℕ → Bool) (counts : M.Rule → Bool) (told : Marks b q counts marks) where
  abbrev every : Scope
  every = record { types = λ t. true; rules = counts }

  filtered : M.Book
  filtered = scoped every (lone_book q.csd b)

  exempt : (n i : ℕ)
      → (type_exempted q (signs_matched b q marks) (type_at b i) && eqb (type_at b i).number n)
      ≡ (eqb (type_at b i).number n && exempts filtered (question_of q) (type_of (type_at b i)))
  unfolding filtered type_exempted exempts type_of
  exempt n i =
      rw (signs b q (ranged q.csd b z) marks every told (type_at b i).number negative (omega arith))
      (and_comm ((eqb (type_at b i).object q.object && covers (type_at b i).first (type_at b i).last q.day) && has (rule_applies filtered (question_of q) (type_at b i).number negative) filtered.rules)
      (eqb (type_at b i).number n))

  pub exempted_at : (n : ℕ)
      → types_exempted b q (signs_matched b q marks) n ≡ exempted (scoped (record { types = λ t. true; rules = counts }) (lone_book q.csd b)) (question_of q) n
  unfolding filtered scoped types_exempted exempted types_of type_of
  exempted_at n =
      keys_all type_numbers (λ t. t.csd) q.csd (type_at b) (λ t. t.number) (type_exempted q (signs_matched b q marks)) type_places
      (λ i l o e. type_low b q z i l o) n
      ∙ any_same _ _ type_places (λ i l. ap (λ x. eqb (type_at b i).csd q.csd && x) (exempt n i))
      ∙ sym (has_lone (λ t. t.csd) type_of q.csd (type_at b) _ type_places)
      ∙ sym (has_among _ (λ t. true) (types_of q.csd b))

pub exempted_within_lem : ExemptedWithin
unfolding exempted_within
exempted_within_lem b q s z = fun_ext (exempted_at b q z (rows_within b q s.fresh) _ (counted_right b q z s))
