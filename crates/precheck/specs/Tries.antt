-- 'What a reviewer will try' and 'Slips of this trade' (document 01), and the slips of the status and of a rule's
-- period (document 02, requests b and c): for each of these pre-checks a book and a line are named at which its answer,
-- or what it leaves, breaks the promise of `submit`. Stated here, proved in proofs/Tries. Assumes nothing.
use Rattle.std.specs.Prelude.{ℕ, zero, suc, ◌≡◌, List, [], ◌∷◌, ◌++◌, Ok}
use Rattle.meaning.specs.Text.{bytes, numeral}
use Rattle.meaning.specs.Records as M
use Rattle.meaning.specs.SameBook.{SameBook}
use Rattle.meaning.specs.Lone.{told}
use Rattle.meaning.specs.Printing.{printed}
use Rattle.meaning.specs.Keler.{keler_lines}
use Rattle.meaning.specs.Within.{shortened_lines}
use Rattle.meaning.specs.declared.Answer.{Answer}
use Rattle.meaning.specs.declared.Answer.TheVariants.{Taken}
use Rattle.meaning.specs.declared.Sent.TheVariants.{Alone}
use Rattle.book.specs.Emptied.{Emptied}
use Rattle.book.specs.Lone.{lone_book}
use Rattle.precheck.specs.Promise.{Submitted}
use Rattle.precheck.specs.Batch.{Steps}

-- ---- the books: what lines sent one by one leave of an emptied book

pub record LeftBy (lines : List (List ℕ)) (book : List ℕ) : Type 0 where
  pub lent : List ℕ
  pub start : List ℕ
  pub emptied : Emptied lent start (Ok tt)
  pub answers : List Answer
  pub steps : Steps start (told Alone lines) answers book

-- one that they leave
pub record SomeLeft (lines : List (List ℕ)) : Type 0 where
  pub book : List ℕ
  pub left_by : LeftBy lines book

-- over every such book the one answer to the line that keeps the promise is printed `right`, so that none printed
-- `wrong` keeps it, whatever bytes it leaves
pub record Refuted (lines : List (List ℕ)) (line right wrong : List ℕ) : Type 0 where
  pub only : (before after : List ℕ) (answer : Answer) → LeftBy lines before → Submitted before line answer after
      → printed answer ≡ right
  pub never : (before after : List ℕ) (answer : Answer) → LeftBy lines before → printed answer ≡ wrong
      → Submitted before line answer after → ⊥

-- ---- the lines

abbrev pub type_line : List ℕ
type_line = bytes "T,2,20170206,9,1,3,20170207,20991231"

abbrev pub neighbours_line : List ℕ
neighbours_line = bytes "T,1,20170206,9,1,3,20170207,20991231"

-- the desk example's type, rule and row, and its first question
unfoldable pub desk_lines : List (List ℕ)
desk_lines =
    type_line ∷ bytes "R,2,20170206,9,1,5,P,4,20170207,20991231" ∷ bytes "M,2,20170206,9,1,5,,,FREE,,,,,,," ∷ []

abbrev pub question : List ℕ
question = bytes "Q,2,20170207,1,2,DELI,FREE,,EUR,11,20,30"

-- the depository's rule of that sequence
unfoldable pub rule_line : ℕ → ℕ → List ℕ
unfolding numeral
rule_line csd sequence =
    bytes "R," ++ numeral csd ++ bytes ",20170206,9,1," ++ numeral sequence ++ bytes ",P,4,20170207,20991231"

-- its rules n to 1
unfoldable pub rule_lines : ℕ → ℕ → List (List ℕ)
unfolding rule_line
rule_lines csd zero = []
rule_lines csd (suc n) = rule_line csd (suc n) ∷ rule_lines csd n

-- ---- the four tries

pub record Tries : Type 0 where
  -- there are such books
  pub books : (lines : List (List ℕ)) → SomeLeft lines
  -- 'accepts every question without a hold'
  pub accepts_every_question : Refuted desk_lines question (bytes "V,A,0,0,0,0,9,5") (bytes "V,A,0,0,0,0,0,0")
  -- 'refuses every line', by whatever number
  pub refuses_every_line : (n : ℕ) → Refuted [] type_line (bytes "K") (bytes "F," ++ numeral n)
  -- 'takes edits with K and stores nothing': the depository's records stay
  pub stores_nothing :
      (before after : List ℕ) → LeftBy [] before → SameBook (lone_book 2 after) (lone_book 2 before)
      → Submitted before type_line Taken after → ⊥
  -- 'says 10 below the quota': 63 rules are held, the line gives the 64th
  pub says_ten : Refuted (type_line ∷ rule_lines 2 63) (rule_line 2 64) (bytes "K") (bytes "F,10")
  -- and at the quota 10 is right
  pub never_ten : Refuted (type_line ∷ rule_lines 2 64) (rule_line 2 65) (bytes "F,10") (bytes "K")

-- ---- the slips of this trade, and a neighbour

-- the KELER set as csd 1, and two of the marked questions' periods
unfoldable pub keler_book : List (List ℕ)
unfolding keler_lines
keler_book =
    keler_lines 1 20170205 20170206 20991231
    ++ (bytes "A,1,20170205,P,10,101,20170301,20170331" ∷ bytes "A,1,20170205,P,12,103,20170301,20170331" ∷ [])

-- the broader rule 7 beside rule 5, which is then taken out and put back as 9
unfoldable pub moved_lines : List (List ℕ)
unfolding desk_lines
moved_lines =
    desk_lines
    ++ (bytes "R,2,20170206,9,1,7,P,2,20170207,20991231"
    ∷ bytes "M,2,20170206,9,1,7,,DELI,,,,,,,,"
    ∷ bytes "N,2,20170206,9,1,5,,,FREE,,,,,,,"
    ∷ bytes "D,2,20170206,9,1,5"
    ∷ bytes "R,2,20170206,9,1,9,P,4,20170207,20991231"
    ∷ bytes "M,2,20170206,9,1,9,,,FREE,,,,,,,"
    ∷ [])

pub record Slips : Type 0 where
  -- 'Stopping at the first match of either sign': marked question 5
  pub first_match :
      Refuted keler_book (bytes "Q,1,20170315,1,2,DELI,FREE,CORP,EUR,10,25,30") (bytes "V,A,0,0,0,0,0,0")
      (bytes "V,R,1,1,0,0,0,0")
  -- 'Exempting CORP for every status': marked question 6
  pub every_status :
      Refuted keler_book (bytes "Q,1,20170315,1,2,DELI,FREE,CORP,EUR,12,25,30") (bytes "V,R,1,1,0,0,0,0")
      (bytes "V,A,0,0,0,0,0,0")
  -- 'a neighbour's rules bring refusal 10': depository 1 holds 64, depository 2 no rule
  pub neighbours_quota :
      Refuted (neighbours_line ∷ rule_lines 1 64 ++ (type_line ∷ [])) (rule_line 2 1) (bytes "K")
      (bytes "F,10")
  -- 'Naming the first rule found in storage after a deletion has moved records'
  pub first_stored : Refuted moved_lines question (bytes "V,A,0,0,0,0,9,7") (bytes "V,A,0,0,0,0,9,9")
  -- a line changes a neighbour's records: depository 1 holds a type before the line of depository 2, and none after it
  pub neighbour_changed :
      (before after : List ℕ) (answer : Answer) → LeftBy (neighbours_line ∷ []) before
      → SameBook (lone_book 1 after) M.empty → Submitted before type_line answer after → ⊥

-- ---- the slips of the status (document 02, request b)

-- beside the desk example's party hold on FREE a validation hold on EUR and a rejection on account 21
unfoldable pub status_lines : List (List ℕ)
unfolding desk_lines
status_lines =
    desk_lines
    ++ (bytes "T,2,20170206,8,1,2,20170207,20991231"
    ∷ bytes "R,2,20170206,8,1,1,P,512,20170207,20991231"
    ∷ bytes "M,2,20170206,8,1,1,,,,,,,,,,EUR"
    ∷ bytes "T,2,20170206,7,1,1,20170207,20991231"
    ∷ bytes "R,2,20170206,7,1,1,P,32,20170207,20991231"
    ∷ bytes "M,2,20170206,7,1,1,,,,,,21,,,,"
    ∷ [])

pub record StatusSlips : Type 0 where
  -- the indicator N undoes a rule's hold
  pub undone_by_n :
      Refuted status_lines (bytes "Q,2,20170207,1,2,DELI,FREE,,,11,20,30,N,N") (bytes "V,A,0,0,0,0,9,5,Y")
      (bytes "V,A,0,0,0,0,9,5,N")
  -- a validation hold counts
  pub validation_counts :
      Refuted status_lines (bytes "Q,2,20170207,1,2,DELI,APMT,,EUR,11,20,30,,N") (bytes "V,A,0,0,8,1,0,0,N")
      (bytes "V,A,0,0,8,1,0,0,Y")
  -- the default counts where the indicator is N
  pub default_over_n :
      Refuted status_lines (bytes "Q,2,20170207,1,2,DELI,APMT,,,11,20,30,N,Y") (bytes "V,A,0,0,0,0,0,0,N")
      (bytes "V,A,0,0,0,0,0,0,Y")
  -- a rejected one keeps Y
  pub rejected_keeps_y :
      Refuted status_lines (bytes "Q,2,20170207,1,2,DELI,FREE,,,11,21,30,Y,Y") (bytes "V,R,7,1,0,0,0,0,N")
      (bytes "V,R,7,1,0,0,0,0,Y")
  -- an empty default is taken
  pub empty_default :
      Refuted status_lines (bytes "Q,2,20170207,1,2,DELI,APMT,,,11,20,30,Y,") (bytes "F,5") (bytes "V,A,0,0,0,0,0,0,Y")
  -- a neighbour's party hold counts: depository 1 holds nothing
  pub neighbours_hold :
      Refuted status_lines (bytes "Q,1,20170207,1,2,DELI,FREE,,,11,20,30,,N") (bytes "V,A,0,0,0,0,0,0,N")
      (bytes "V,A,0,0,0,0,0,0,Y")

-- ---- the slips of a rule's period (document 02, request c)

-- depository 2's type 8, from March to December 2017, and an E that shortens it to June
abbrev pub short_type : List ℕ
short_type = bytes "T,2,20170206,8,1,1,20170301,20171231"

abbrev pub shortened_type : List ℕ
shortened_type = bytes "E,2,20170206,8,1,20170630"

pub record PeriodSlips : Type 0 where
  -- 13 before 8: the sequence is held
  pub thirteen_before_eight :
      Refuted (short_type ∷ bytes "R,2,20170206,8,1,1,P,4,20170301,20171231" ∷ [])
      (bytes "R,2,20170206,8,1,1,P,4,20170301,20180101") (bytes "F,8") (bytes "F,13")
  -- 13 after 10: 64 rules are held
  pub thirteen_after_ten :
      Refuted (type_line ∷ short_type ∷ rule_lines 2 64) (bytes "R,2,20170206,8,1,1,P,4,20170301,20180101")
      (bytes "F,13") (bytes "F,10")
  -- only the last day compared: the rule begins a day before its type
  pub only_the_last_day :
      Refuted (short_type ∷ []) (bytes "R,2,20170206,8,1,1,P,4,20170228,20171231") (bytes "F,13") (bytes "K")
  -- only the first day compared: it ends a day after its type
  pub only_the_first_day :
      Refuted (short_type ∷ []) (bytes "R,2,20170206,8,1,1,P,4,20170301,20180101") (bytes "F,13") (bytes "K")
  -- the type's period at entry instead of its present one
  pub period_at_entry :
      Refuted (short_type ∷ shortened_type ∷ []) (bytes "R,2,20170206,8,1,1,P,4,20170301,20171231") (bytes "F,13") (bytes "K")
  -- an E refused, by whatever number, because a rule would outlive its type
  pub end_refused :
      (n : ℕ)
      → Refuted (short_type ∷ bytes "R,2,20170206,8,1,1,P,4,20170301,20171231" ∷ []) shortened_type (bytes "K")
      (bytes "F," ++ numeral n)
  -- soundness asking it: a rule that outlives its type would bring 1
  pub soundness_asks_it :
      Refuted shortened_lines (bytes "Q,2,20170630,1,2,DELI,FREE,,EUR,11,20,30") (bytes "V,R,9,5,0,0,0,0") (bytes "F,1")
  -- such a rule no longer working on a day when both periods hold
  pub stored_ones_ignored :
      Refuted shortened_lines (bytes "Q,2,20170630,1,2,DELI,FREE,,EUR,11,20,30") (bytes "V,R,9,5,0,0,0,0")
      (bytes "V,A,0,0,0,0,0,0")
  -- or still working on a day that only the rule's period holds
  pub works_after_its_type :
      Refuted shortened_lines (bytes "Q,2,20170701,1,2,DELI,FREE,,EUR,11,20,30") (bytes "V,A,0,0,0,0,0,0")
      (bytes "V,R,9,5,0,0,0,0")
  -- a neighbour's period counts: depository 1 has the same type for longer
  pub neighbours_type :
      Refuted (short_type ∷ bytes "T,1,20170206,8,1,1,20170301,20991231" ∷ [])
      (bytes "R,1,20170206,8,1,1,P,4,20170301,20180101") (bytes "K") (bytes "F,13")
