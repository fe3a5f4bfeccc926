-- What S keeps, and what the start of a day leaves of a kept instruction, does not depend on the order of the records.
use Rattle.std.proofs.Common.{ℕ, ◌≡◌, ap, ap₂, ◌∙◌, true, not, cond, ◌&&◌, Some, None, eqb}
use mathlib.Core.Path.{fun_ext}
use Rattle.tables.specs.Count.{has}
use Rattle.tables.proofs.Lists.{same_keep}
use Rattle.meaning.specs.Records.{Kept, Book, Question, negative}
use Rattle.meaning.specs.Judging.{covers, rejected, judged}
use Rattle.meaning.specs.Scope.{Scope, scoped, is_new, only_new}
use Rattle.meaning.specs.Pending.{asking, exempts, exempted, passed_over, at_start, met, fresh, entered, start_verdict, start_exempted, started}
use Rattle.meaning.specs.SameBook.{SameBook}
use Rattle.meaning.proofs.OrderJudged.{types_has, judged_same, some_rule_applies_same}

module _ (b c : Book) (s : SameBook b c) where
  scoped_same : (x : Scope) → SameBook (scoped x b) (scoped x c)
  unfolding scoped
  scoped_same x = record {
    types = same_keep x.types b.types c.types s.types;
    rules = same_keep x.rules b.rules c.rules s.rules;
    rows = s.rows;
    periods = s.periods;
  }

  new_same : (day : ℕ) → is_new b day ≡ is_new c day
  unfolding is_new
  new_same day = fun_ext (λ r. types_has b c s _)

  exempts_same : (q : Question) → exempts b q ≡ exempts c q
  unfolding exempts
  exempts_same q =
      fun_ext (λ t.
      ap (λ x. eqb t.object q.object && covers t.first t.last q.day && x)
      (some_rule_applies_same b c s q t.type negative))

  exempted_same : (q : Question) → exempted b q ≡ exempted c q
  unfolding exempted
  exempted_same q =
      fun_ext (λ n.
      types_has b c s _ ∙ ap (λ e. has (λ t. eqb t.type n && e t) c.types) (exempts_same q))

  pub entered_same : (reference : ℕ) (q : Question) → entered b reference q ≡ entered c reference q
  unfolding entered
  entered_same reference q =
      ap₂ (λ v e. met v e q.day (fresh reference q)) (judged_same b c s q) (exempted_same q)

module _ (b c : Book) (s : SameBook b c) (day : ℕ) (k : Kept) where
  verdict_alike : start_verdict b day k ≡ start_verdict c day k
  unfolding start_verdict
  verdict_alike =
      judged_same (scoped (at_start b day k) b) (scoped (at_start b day k) c) (scoped_same b c s (at_start b day k)) (asking day k)
      ∙ ap (λ r. judged (scoped (record { types = λ t. not (passed_over k t); rules = r }) c) (asking day k)) (new_same b c s day)

  exempted_alike : start_exempted b day k ≡ start_exempted c day k
  unfolding start_exempted
  exempted_alike =
      exempted_same (scoped (only_new b day) b) (scoped (only_new b day) c) (scoped_same b c s (only_new b day)) (asking day k)
      ∙ ap (λ r. exempted (scoped (record { types = λ t. true; rules = r }) c) (asking day k)) (new_same b c s day)

  pub started_same : started b day k ≡ started c day k
  unfolding started
  started_same = ap₂ (λ v e. cond (rejected v) None (Some (met v e day k))) verdict_alike exempted_alike
