-- What a command of the code asks, as the written meaning's; and the command of the code for one of the meaning's.
-- Assumes nothing.
-- No position of a line's numbers is known here: the meaning's `command_of` alone knows them.
use Rattle.std.specs.Prelude.{ℕ, ◌%◌, List, [], ◌∷◌, Option, Some, None}
use Rattle.meaning.specs.Forms.{Letter, letter_q, Shape, shapes, has_letter, first_shape}
use Rattle.meaning.specs.Records as M
use Rattle.meaning.specs.Records.{◌!◌, command_of}
use Rattle.meaning.specs.declared.Wishes.{Wishes}
use Rattle.places.specs.declared.Row.{Row}
use Rattle.places.specs.declared.Period.{Period}
use Rattle.records.specs.Said.{type_of, rule_of, row_of, period_of}
use Rattle.records.specs.declared.TypeKey.{TypeKey}
use Rattle.records.specs.declared.RuleKey.{RuleKey}
use Rattle.commands.specs.declared.Question.{Question}
use Rattle.commands.specs.declared.What.{What}
use Rattle.commands.specs.declared.Command.{Command}

-- ---- what a command asks

abbrev pub question_of : Question → M.Question
question_of q = record {
  day = q.day;
  object = q.object;
  party_type = q.role;
  movement = q.movement;
  payment = q.payment;
  transaction = q.transaction;
  currency = q.currency;
  party = q.party;
  account = q.account;
  security = q.security;
}

-- with the day beside
unfoldable pub asked_by : ℕ → What → M.Command
asked_by day (What.AddType t) = M.add_type day (type_of t)
asked_by day (What.EndType k last) = M.end_type day k.number k.object last
asked_by day (What.AddRule r) = M.add_rule day (rule_of r)
asked_by day (What.Reorder k new) = M.reorder k.number k.object k.sequence new
asked_by day (What.DeleteRule k) = M.delete_rule k.number k.object k.sequence
asked_by day (What.AddRow w) = M.add_row (row_of w)
asked_by day (What.DeleteRow w) = M.delete_row (row_of w)
asked_by day (What.AddPeriod p) = M.add_period day (period_of p)
asked_by day (What.EndPeriod p) = M.end_period day p.kind p.number p.code p.first p.last
asked_by day (What.Ask q x) = M.ask (question_of q) x

abbrev pub asked : Command → M.Command
asked c = asked_by c.day c.what

-- the question that is asked, if it is one, with the wishes that it carries
abbrev pub question_asked : What → Option (Question × Wishes)
question_asked (What.AddType t) = None
question_asked (What.EndType k last) = None
question_asked (What.AddRule r) = None
question_asked (What.Reorder k new) = None
question_asked (What.DeleteRule k) = None
question_asked (What.AddRow w) = None
question_asked (What.DeleteRow w) = None
question_asked (What.AddPeriod p) = None
question_asked (What.EndPeriod p) = None
question_asked (What.Ask q x) = Some (q, x)

-- ---- the command of depository c for what is asked; what stands in one byte is the number's lowest byte

abbrev pub type_key_on : ℕ → ℕ → TypeKey
type_key_on type object = record { number = type % 256; object = object % 256 }

abbrev pub rule_key_on : ℕ → ℕ → ℕ → RuleKey
rule_key_on type object sequence =
    record { sequence = sequence % 256; number = type % 256; object = object % 256 }

abbrev pub row_on : ℕ → ℕ → ℕ → ℕ → List ℕ → Row
row_on c type object sequence values =
    record { csd = c; number = type % 256; object = object % 256; sequence = sequence % 256; values = values }

abbrev pub period_on : ℕ → ℕ → ℕ → ℕ → ℕ → ℕ → Period
period_on c kind number code first last =
    record { csd = c; kind = kind % 256; number = number; code = code; first = first; last = last }

abbrev pub question_on : ℕ → M.Question → Question
question_on c q = record {
  csd = c;
  day = q.day;
  object = q.object % 256;
  role = q.party_type;
  movement = q.movement;
  payment = q.payment;
  transaction = q.transaction;
  currency = q.currency;
  party = q.party;
  account = q.account;
  security = q.security;
}

unfoldable pub what_of : ℕ → M.Command → What
what_of c (M.add_type day t) =
    What.AddType (record {
      csd = c;
      number = t.type % 256;
      object = t.object % 256;
      processing = t.processing % 256;
      first = t.first;
      last = t.last;
    })
what_of c (M.end_type day type object last) = What.EndType (type_key_on type object) last
what_of c (M.add_rule day r) =
    What.AddRule (record {
      csd = c;
      number = r.type % 256;
      object = r.object % 256;
      sequence = r.sequence % 256;
      sign = r.sign % 256;
      criteria = r.criteria;
      first = r.first;
      last = r.last;
    })
what_of c (M.reorder type object sequence new) = What.Reorder (rule_key_on type object sequence) (new % 256)
what_of c (M.delete_rule type object sequence) = What.DeleteRule (rule_key_on type object sequence)
what_of c (M.add_row w) = What.AddRow (row_on c w.type w.object w.sequence w.values)
what_of c (M.delete_row w) = What.DeleteRow (row_on c w.type w.object w.sequence w.values)
what_of c (M.add_period day p) = What.AddPeriod (period_on c p.kind p.number p.code p.first p.last)
what_of c (M.end_period day kind number code first last) = What.EndPeriod (period_on c kind number code first last)
what_of c (M.ask q x) = What.Ask (question_on c q) x

-- the command of depository c on a day
unfoldable pub coded : ℕ → ℕ → M.Command → Command
unfolding what_of
coded c day k = record { csd = c; day = day; what = what_of c k }

-- ---- by letter

-- the letter of a row; what is no row of the table is taken for Q
abbrev pub or_question : Option Shape → Letter
or_question None = letter_q
or_question (Some s) = s.letter

-- the letter of a byte
unfoldable pub letter_for : ℕ → Letter
unfolding first_shape shapes
letter_for n = or_question (first_shape (has_letter (n ∷ [])) shapes)

-- what a line of that letter asks, by the numbers of its fields, 0 the csd and 1 the day
abbrev pub command_from : Letter → List ℕ → Command
command_from l v = coded (v ! 0 % 256) (v ! 1) (command_of l v)
