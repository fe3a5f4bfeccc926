-- The scopes by which the commands of pending instructions judge (document 02, request d): the whole one by which S
-- does, and that by which the start of a day meets a kept instruction.
use Rattle.std.proofs.Common.{ℕ, ◌≡◌, refl, ap, ap₂, ◌∙◌, Bool, true, ◌&&◌, ◌||◌, not, cond, List, eqb, eqb-true}
use mathlib.Core.Path.{fun_ext}
use mathlib.Core.Bool.{and-true, and-false, or-false}
use Rattle.tables.proofs.Counts.{cases}
use Rattle.meaning.specs.Records as M
use Rattle.meaning.specs.Records.{validation_hold, party_hold}
use Rattle.meaning.specs.Sound.{sound_lone}
use Rattle.meaning.specs.Scope.{is_new}
use Rattle.meaning.specs.Pending.{among, held_since, is_held, exempted, passed_over, at_start}
use Rattle.book.specs.Lone.{lone_book}
use Rattle.commands.specs.Asked.{question_of}
use Rattle.commands.specs.declared.Question.{Question}
use Rattle.judge.specs.Stages.{judged_by}
use Rattle.judge.specs.Within.{whole, none_passed, type_passed, rows_within, judged_within, exempted_within, scope_of}
use Rattle.judge.specs.declared.Scope.{Scope}
use Rattle.judge.proofs.VerdictRight.{scoped_whole}
use Rattle.judge.proofs.ExemptedRight.{exempted_within_lem}

-- ---- S is judged as Q, over the lone book as it is

pub whole_judged : (b : List ℕ) (q : Question) → judged_within b q whole none_passed ≡ judged_by b q
unfolding judged_within judged_by type_passed rows_within
whole_judged b q = refl

pub whole_exempted : (b : List ℕ) (q : Question) → sound_lone (lone_book q.csd b) ≡ true
    → exempted_within b q whole ≡ exempted (lone_book q.csd b) (question_of q)
whole_exempted b q z =
    exempted_within_lem b q whole z ∙ ap (λ m. exempted m (question_of q)) (scoped_whole (lone_book q.csd b))

-- ---- W: what is remembered is passed over, and each hold that is on

held : (k : M.Kept) (v h : Bool) (p : ℕ) → v ≡ is_held k validation_hold → h ≡ is_held k party_hold
    → ((v && eqb p validation_hold) || (h && eqb p party_hold)) ≡ is_held k p
unfolding is_held held_since
held k v h p ev eh =
    cases (eqb p validation_hold)
    (λ e. rw (eqb-true p validation_hold e, and-true v, and-false h) (or-false v ∙ ev))
    (λ e.
    cases (eqb p party_hold)
    (λ f. rw (eqb-true p party_hold f, and-false v, and-true h) eh)
    (λ f. rw (e, f, and-false v, and-false h)))

pub at_start_lem : (b : M.Book) (day : ℕ) (k : M.Kept) (s : Scope) (passed : ℕ → Bool) → s.fresh ≡ true
    → s.validating ≡ is_held k validation_hold → s.holding ≡ is_held k party_hold → passed ≡ among k.remembered
    → scope_of s passed b day ≡ at_start b day k
unfolding passed_over
at_start_lem b day k s passed ef ev eh ep =
    ap₂ (λ x y. record { types = x; rules = y })
    (fun_ext (λ t. ap₂ (λ x y. not (x || y)) (ap (λ f. f t.type) ep) (held k s.validating s.holding t.processing ev eh)))
    (fun_ext (λ r. ap (λ x. cond x (is_new b day r) true) ef))
