-- What a reviewer will try, and the slips of this trade: none keeps the promise.
use Rattle.std.proofs.Common.{ℕ, ◌≤◌, ◌≡◌, refl, ap, sym, subst, ◌∙◌, true, false, List, [], ◌∷◌, arith, length}
use mathlib.Core.Bool.{false≢true}
use Rattle.tables.specs.Bytes.{zeros}
use Rattle.tables.specs.Count.{keep}
use Rattle.tables.proofs.Zeros.{length_zeros}
use Rattle.tables.proofs.Lists.{same_length}
use Rattle.meaning.specs.Text.{same}
use Rattle.meaning.specs.Records as M
use Rattle.meaning.specs.SameBook.{SameBook}
use Rattle.meaning.specs.Lone.{told, after_sent, step_sent, step, after, names, counts}
use Rattle.meaning.specs.Printing.{printed}
use Rattle.meaning.specs.Within.{shortened_lines}
use Rattle.meaning.specs.declared.Answer.{Answer}
use Rattle.meaning.specs.declared.Answer.TheVariants.{Taken}
use Rattle.meaning.specs.declared.Sent.TheVariants.{Alone}
use Rattle.meaning.proofs.Order.{step_same}
use Rattle.meaning.proofs.Names.{names_depository}
use Rattle.meaning.proofs.SameLists.{same_self}
use Rattle.places.specs.Layout.{book_size}
use Rattle.book.specs.Lone.{types_of, lone_book}
use Rattle.book.specs.Sound.{sound}
use Rattle.book.proofs.NoRecords.{emptied_yes, emptied_sound, emptied_lone}
use Rattle.book.proofs.SameBooks.{same_books, same_then}
use Rattle.precheck.specs.Promise.{Submitted}
use Rattle.precheck.specs.Tries.{LeftBy, SomeLeft, Refuted, type_line, neighbours_line, desk_lines, rule_line, rule_lines, Tries, keler_book, moved_lines, Slips, status_lines, StatusSlips, PeriodSlips}
use Rattle.precheck.proofs.Alone.{Fed, from, keep_alone, shared_answer, named_after, other_after}
use Rattle.precheck.proofs.Runs.{some_steps}

-- ---- there are such books

pub some_left : (lines : List (List ℕ)) → SomeLeft lines
some_left lines =
    let r = some_steps (zeros book_size) (told Alone lines) in
    let size = length_zeros book_size in
    record {
      book = r.after;
      left_by = record {
        lent = zeros book_size;
        start = zeros book_size;
        emptied = emptied_yes (zeros book_size) (zeros book_size) size (ap zeros (sym size));
        answers = r.answers;
        steps = r.steps;
      };
    }

-- ---- what lines leave of an emptied book is sound, and of each depository the lone book after those that name it

module _ (lines : List (List ℕ)) (b : List ℕ) (l : LeftBy lines b) where
  -- a's lone book fed with them, which is empty at first
  pub fed : (a : ℕ) (low : 1 ≤ a) (high : a ≤ 8) → Fed a low high M.empty (told Alone lines) l.answers b
  fed a low high =
      from a low high l.steps M.empty (emptied_sound l.lent l.start l.emptied)
      (same_books (emptied_lone l.lent l.start l.emptied a low))

  pub held_sound : sound b ≡ true
  held_sound = (fed 1 (omega arith) (omega arith)).stays

  module _ (a : ℕ) (low : 1 ≤ a) (high : a ≤ 8) where
    abbrev m : M.Book
    m = after M.empty (keep (names a) lines)

    pub held : SameBook (lone_book a b) m
    unfolding after
    held = subst (SameBook (lone_book a b)) (ap (after_sent M.empty) (keep_alone a lines)) (fed a low high).left

    module _ (line b' : List ℕ) (x : Answer) (t : Submitted b line x b') where
      -- the answer to a line that names the depository, and its records after it, are the lone book's
      answer_held : names a line ≡ true → x ≡ (step m line).answer
      unfolding step_sent step
      answer_held e =
          t.answered ∙ shared_answer a low high Alone b b' line (names_depository a line low high e) held_sound
          ∙ (step_same (lone_book a b) m held line).answer

      book_held : names a line ≡ true → SameBook (lone_book a b') (step m line).book
      unfolding step_sent step
      book_held e =
          same_then (lone_book a b') (step (lone_book a b) line).book (step m line).book
          (named_after a low high Alone b b' line e (t.records held_sound a low high))
          (step_same (lone_book a b) m held line).book

      -- any other line leaves its records
      other_held : names a line ≡ false → SameBook (lone_book a b') m
      unfolding counts names
      other_held e =
          same_then (lone_book a b') (lone_book a b) m
          (other_after a low high Alone b b' line e (t.records held_sound a low high)) held

-- ---- an answer, by the lone book after the lines that name the depository

-- the line names the depository, and what its lone book answers is printed `right`, which is not `wrong`
pub record Computed (a : ℕ) (lines : List (List ℕ)) (line right wrong : List ℕ) : Type 0 where
  pub own : names a line ≡ true
  pub answer : printed (step (after M.empty (keep (names a) lines)) line).answer ≡ right
  pub other : same right wrong ≡ false

refuted : (a : ℕ) → 1 ≤ a → a ≤ 8 → {lines : List (List ℕ)} {line right wrong : List ℕ}
    → Computed a lines line right wrong → Refuted lines line right wrong
refuted a low high {lines} {line} {right} {wrong} c =
    let one : (b b' : List ℕ) (x : Answer) → LeftBy lines b → Submitted b line x b' → printed x ≡ right =
    λ b b' x l t. ap printed (answer_held lines b l a low high line b' x t c.own) ∙ c.answer in
    record {
      only = one;
      never = λ b b' x l e t. false≢true (sym c.other ∙ ap (same right) (sym e ∙ one b b' x l t) ∙ same_self right);
    }

-- ---- what is left, by the number of types

-- how many types a book of the same records holds
types_held : (m n : M.Book) → SameBook m n → length m.types ≡ length n.types
types_held m n h = same_length m.types n.types h.types

-- the emptied book holds no type, the book after the line one
stores_nothing : (b b' : List ℕ) → LeftBy [] b → SameBook (lone_book 2 b') (lone_book 2 b)
    → Submitted b type_line Taken b' → ⊥
unfolding names keep after step
stores_nothing b b' l h t =
    let one : length (types_of 2 b') ≡ 1 =
    types_held (lone_book 2 b') (step M.empty type_line).book
    (book_held [] b l 2 (omega arith) (omega arith) type_line b' Taken t refl) in
    let none : length (types_of 2 b) ≡ 0 =
    types_held (lone_book 2 b) M.empty (held [] b l 2 (omega arith) (omega arith)) in
    omega (arith, one, none, types_held (lone_book 2 b') (lone_book 2 b) h)

-- a neighbour's type stays
neighbour_changed : (b b' : List ℕ) (x : Answer) → LeftBy (neighbours_line ∷ []) b → SameBook (lone_book 1 b') M.empty
    → Submitted b type_line x b' → ⊥
unfolding names keep after step
neighbour_changed b b' x l h t =
    let one : length (types_of 1 b') ≡ 1 =
    types_held (lone_book 1 b') (step M.empty neighbours_line).book
    (other_held (neighbours_line ∷ []) b l 1 (omega arith) (omega arith) type_line b' x t refl) in
    omega (arith, one, types_held (lone_book 1 b') M.empty h)

-- ---- the statements: what the lone book answers is computed

pub tries : Tries
unfolding desk_lines rule_line rule_lines names keep after step printed
tries = record {
  books = some_left;
  accepts_every_question = refuted 2 (omega arith) (omega arith) (record { own = refl; answer = refl; other = refl });
  refuses_every_line = λ n. refuted 2 (omega arith) (omega arith) (record { own = refl; answer = refl; other = refl });
  stores_nothing = stores_nothing;
  says_ten = refuted 2 (omega arith) (omega arith) (record { own = refl; answer = refl; other = refl });
  never_ten = refuted 2 (omega arith) (omega arith) (record { own = refl; answer = refl; other = refl });
}

pub slips : Slips
unfolding keler_book moved_lines rule_line rule_lines names keep after step printed
slips = record {
  first_match = refuted 1 (omega arith) (omega arith) (record { own = refl; answer = refl; other = refl });
  every_status = refuted 1 (omega arith) (omega arith) (record { own = refl; answer = refl; other = refl });
  neighbours_quota = refuted 2 (omega arith) (omega arith) (record { own = refl; answer = refl; other = refl });
  first_stored = refuted 2 (omega arith) (omega arith) (record { own = refl; answer = refl; other = refl });
  neighbour_changed = neighbour_changed;
}

pub status_slips : StatusSlips
unfolding status_lines names keep after step printed
status_slips = record {
  undone_by_n = refuted 2 (omega arith) (omega arith) (record { own = refl; answer = refl; other = refl });
  validation_counts = refuted 2 (omega arith) (omega arith) (record { own = refl; answer = refl; other = refl });
  default_over_n = refuted 2 (omega arith) (omega arith) (record { own = refl; answer = refl; other = refl });
  rejected_keeps_y = refuted 2 (omega arith) (omega arith) (record { own = refl; answer = refl; other = refl });
  empty_default = refuted 2 (omega arith) (omega arith) (record { own = refl; answer = refl; other = refl });
  neighbours_hold = refuted 1 (omega arith) (omega arith) (record { own = refl; answer = refl; other = refl });
}

pub period_slips : PeriodSlips
unfolding rule_line rule_lines shortened_lines names keep after step printed
period_slips = record {
  thirteen_before_eight = refuted 2 (omega arith) (omega arith) (record { own = refl; answer = refl; other = refl });
  thirteen_after_ten = refuted 2 (omega arith) (omega arith) (record { own = refl; answer = refl; other = refl });
  only_the_last_day = refuted 2 (omega arith) (omega arith) (record { own = refl; answer = refl; other = refl });
  only_the_first_day = refuted 2 (omega arith) (omega arith) (record { own = refl; answer = refl; other = refl });
  period_at_entry = refuted 2 (omega arith) (omega arith) (record { own = refl; answer = refl; other = refl });
  end_refused = λ n. refuted 2 (omega arith) (omega arith) (record { own = refl; answer = refl; other = refl });
  soundness_asks_it = refuted 2 (omega arith) (omega arith) (record { own = refl; answer = refl; other = refl });
  stored_ones_ignored = refuted 2 (omega arith) (omega arith) (record { own = refl; answer = refl; other = refl });
  works_after_its_type = refuted 2 (omega arith) (omega arith) (record { own = refl; answer = refl; other = refl });
  neighbours_type = refuted 1 (omega arith) (omega arith) (record { own = refl; answer = refl; other = refl });
}
