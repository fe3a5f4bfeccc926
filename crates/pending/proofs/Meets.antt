-- What the code makes of one instruction is what the written meaning does.
use Rattle.std.proofs.Common.{ℕ, ◌≡◌, refl, ap, ap₂, sym, ◌∙◌, Bool, true, false, cond, List, Some, None, Result, Ok, Err, is_err, ne_eqb, replicate}
use mathlib.Core.Path.{fun_ext}
use Rattle.tables.specs.Keyed.{marked}
use Rattle.meaning.specs.Records as M
use Rattle.meaning.specs.Records.{validation_hold, party_hold}
use Rattle.meaning.specs.Judging.{rejected, judged}
use Rattle.meaning.specs.Scope.{scoped}
use Rattle.meaning.specs.Sound.{sound_lone}
use Rattle.meaning.specs.Pending.{held_since, is_held, since, asking, met, fresh, entered, start_verdict, start_exempted, started, released}
use Rattle.meaning.specs.declared.Verdict.{Verdict}
use Rattle.memory.specs.Remembered.{spare_clear, type_bits, with_types}
use Rattle.memory.proofs.Remembering.{none_remembered, types_put, marks_among}
use Rattle.places.specs.declared.Kept.{Kept}
use Rattle.records.specs.Said.{instruction_of}
use Rattle.book.specs.Lone.{lone_book}
use Rattle.commands.specs.Asked.{question_of}
use Rattle.commands.specs.declared.Question.{Question}
use Rattle.judge.specs.Stages.{judged_by}
use Rattle.judge.specs.Within.{whole, none_passed, judged_within, exempted_within}
use Rattle.judge.specs.declared.Scope.{Scope}
use Rattle.judge.proofs.VerdictRight.{judged_right, judged_within_lem}
use Rattle.judge.proofs.ExemptedRight.{exempted_within_lem}
use Rattle.judge.proofs.Starting.{whole_judged, whole_exempted, at_start_lem}
use Rattle.pending.specs.OnBytes.{asking_at, fresh_at, kept_with, kept_by, kept_unless, met_by, entered_by, scope_at, started_by, released_at, left_of, either_of, Remembering, Entered}

-- ---- what is left, with its days and types

-- of an instruction that is kept, and of one that would be but for a rejection
pub kept_said : (k : Kept) (day : ℕ) (v : Verdict) (exempt : ℕ → Bool) → Remembering k
    → instruction_of (kept_by k day v exempt) ≡ met v exempt day (instruction_of k)
unfolding kept_by met instruction_of
kept_said k day v exempt r = rw (types_put k.remembered exempt r.long r.clear)

left_by : (t : Bool) (k : Kept) → left_of (kept_unless t k) ≡ cond t None (Some (instruction_of k))
left_by true k = refl
left_by false k = refl

rejects_by : (t : Bool) (k : Kept) → is_err (kept_unless t k) ≡ t
rejects_by true k = refl
rejects_by false k = refl

either_by : (t : Bool) (k : Kept) → either_of (kept_unless t k) ≡ k
either_by true k = refl
either_by false k = refl

pub met_said : (k : Kept) (day : ℕ) (v : Verdict) (exempt : ℕ → Bool) → Remembering k
    → instruction_of (either_of (met_by k day v exempt)) ≡ met v exempt day (instruction_of k)
unfolding met_by
met_said k day v exempt r =
    ap instruction_of (either_by (rejected v) (kept_by k day v exempt)) ∙ kept_said k day v exempt r

-- ---- S

-- no byte has a bit
none_clear : spare_clear (replicate 13 0) ≡ true
unfolding spare_clear
none_clear = refl

fresh_remembers : (reference : ℕ) (q : Question) → Remembering (fresh_at reference q)
fresh_remembers reference q = record { long = refl; clear = none_clear }

fresh_said : (reference : ℕ) (q : Question) → instruction_of (fresh_at reference q) ≡ fresh reference (question_of q)
unfolding instruction_of
fresh_said reference q = rw none_remembered

pub entered_right : (b : List ℕ) (reference : ℕ) (q : Question) → sound_lone (lone_book q.csd b) ≡ true
    → Entered (lone_book q.csd b) reference (question_of q) (entered_by b reference q)
unfolding entered_by entered met_by
entered_right b reference q z =
    let v = judged_right b q z in
    record {
      rejected = rejects_by (rejected (judged_by b q)) (kept_by (fresh_at reference q) q.day (judged_by b q) (exempted_within b q whole))
          ∙ ap (λ x. rejected x) v;
      kept = met_said (fresh_at reference q) q.day (judged_by b q) (exempted_within b q whole) (fresh_remembers reference q)
          ∙ ap (met (judged_by b q) (exempted_within b q whole) q.day) (fresh_said reference q)
          ∙ ap₂ (λ x e. met x e q.day (fresh reference (question_of q))) v (whole_exempted b q z);
    }

-- ---- W

module _ (b : List ℕ) (k : Kept) (day : ℕ) (z : sound_lone (lone_book k.csd b) ≡ true) (r : Remembering k) where
  abbrev m : M.Book
  m = lone_book k.csd b

  abbrev i : M.Kept
  i = instruction_of k

  -- what is found is what the meaning judges, over the book of the new rules without the types passed over
  verdict_right : judged_within b (asking_at k day) (scope_at k) (type_bits k.remembered) ≡ start_verdict m day i
  unfolding start_verdict instruction_of is_held held_since
  verdict_right =
      judged_within_lem b (asking_at k day) (scope_at k) (type_bits k.remembered) z
      ∙ ap (λ s. judged (scoped s m) (asking day i))
      (at_start_lem m day i (scope_at k) (type_bits k.remembered) refl refl refl
      (fun_ext (λ n. marks_among k.remembered n r.long r.clear)))

  exempted_right : exempted_within b (asking_at k day) (scope_at k) ≡ start_exempted m day i
  unfolding start_exempted instruction_of
  exempted_right = exempted_within_lem b (asking_at k day) (scope_at k) z

  pub started_right : left_of (started_by b k day) ≡ started m day i
  unfolding started_by met_by started
  started_right =
      left_by (rejected (judged_within b (asking_at k day) (scope_at k) (type_bits k.remembered)))
      (kept_by k day (judged_within b (asking_at k day) (scope_at k) (type_bits k.remembered)) (exempted_within b (asking_at k day) (scope_at k)))
      ∙ ap (λ x. cond (rejected (judged_within b (asking_at k day) (scope_at k) (type_bits k.remembered))) None (Some x))
      (kept_said k day (judged_within b (asking_at k day) (scope_at k) (type_bits k.remembered)) (exempted_within b (asking_at k day) (scope_at k)) r)
      ∙ ap₂ (λ v e. cond (rejected v) None (Some (met v e day i))) verdict_right exempted_right

-- ---- L

pub released_right : (hold : ℕ) (k : Kept) → instruction_of (released_at hold k) ≡ released hold (instruction_of k)
unfolding released_at released instruction_of
released_right hold k = refl

-- ---- what the functions return

-- a rejected instruction, whatever types are exempted: Err is what it would be left as
pub rejected_left : (k : Kept) (day : ℕ) (v : Verdict) (exempt : ℕ → Bool) (t : Bool) → t ≡ rejected v → t ≡ true
    → Err (kept_by k day v exempt) ≡ met_by k day v exempt
unfolding met_by
rejected_left k day v exempt t e h = rw (sym e ∙ h)

module _ (k : Kept) (day validating holding : ℕ) (v : Verdict) (marks remembered : List ℕ) (t : Bool)
    (types : remembered ≡ with_types k.remembered (marked marks)) (held : holding ≡ since day k.holding v.party)
    (validated : validating ≡ since day k.validating v.validation) (e : t ≡ rejected v) where
  pub after_rejected : t ≡ true → Err (kept_with k validating holding remembered) ≡ met_by k day v (marked marks)
  unfolding kept_by
  after_rejected h = rw (types, held, validated) (rejected_left k day v (marked marks) t e h)

  pub after_kept : t ≡ false → Ok (kept_with k validating holding remembered) ≡ met_by k day v (marked marks)
  unfolding met_by kept_by
  after_kept h = rw (sym e ∙ h, types, held, validated)

-- L, by the processing of the hold
pub released_by : (k r : Kept) (hold : ℕ) → r ≡ released_at hold k
    → (r ≡ released_at hold k) × (instruction_of r ≡ released hold (instruction_of k))
released_by k r hold e = (e, ap instruction_of e ∙ released_right hold k)

pub other_hold : (k : Kept) (hold : ℕ) → (hold ≡ validation_hold → ⊥) → (hold ≡ party_hold → ⊥) → k ≡ released_at hold k
unfolding released_at
other_hold k hold a d = rw (ne_eqb hold validation_hold a, ne_eqb hold party_hold d)

module _ (b : List ℕ) (x : Result Kept Kept) (v : Verdict) (exempt : ℕ → Bool) where
  pub entered_by_lem : (reference : ℕ) (q : Question) (k : Kept) (s : Scope) (passed : ℕ → Bool)
      → x ≡ met_by k q.day v exempt → k ≡ fresh_at reference q → v ≡ judged_within b q s passed
      → exempt ≡ exempted_within b q s → s ≡ whole → passed ≡ none_passed
      → (x ≡ entered_by b reference q)
      × (sound_lone (lone_book q.csd b) ≡ true → Entered (lone_book q.csd b) reference (question_of q) x)
  unfolding entered_by
  entered_by_lem reference q k s passed e f g h w n =
      let t : x ≡ entered_by b reference q = rw (e, f, g, h, w, n, whole_judged b q) in
      (t, λ z. rw t (entered_right b reference q z))

  pub started_by_lem : (k : Kept) (day : ℕ) (q : Question) (s : Scope) (passed : ℕ → Bool) → x ≡ met_by k day v exempt
      → v ≡ judged_within b q s passed → exempt ≡ exempted_within b q s → q ≡ asking_at k day → s ≡ scope_at k
      → passed ≡ type_bits k.remembered
      → (x ≡ started_by b k day)
      × (sound_lone (lone_book k.csd b) ≡ true → Remembering k → left_of x ≡ started (lone_book k.csd b) day (instruction_of k))
  unfolding started_by
  started_by_lem k day q s passed e f g h i j =
      let t : x ≡ started_by b k day = rw (e, f, g, h, i, j) in
      (t, λ z r. ap left_of t ∙ started_right b k day z r)
