-- `commands::letters::what_of` meets its contract. Assumes nothing.
use Rattle.meaning.specs.Forms.{letter_t, letter_e, letter_r, letter_o, letter_d, letter_m, letter_n, letter_a, letter_z, letter_q}
use Rattle.meaning.specs.Records.{command_of}
use Rattle.commands.specs.Asked.{what_of}
use Rattle.commands.proofs.Decoded.{none_q, arm, last_arm}
use Rattle.commands.proofs.letters.what_of.Goals as goal

pub returns-in-84 : goal.returns-in-84
unfolding what_of command_of
returns-in-84 c = search (arm letter_t)

pub returns-in-69 : goal.returns-in-69
unfolding what_of command_of
returns-in-69 c = search (arm letter_e)

pub returns-in-82 : goal.returns-in-82
unfolding what_of command_of
returns-in-82 c = search (arm letter_r)

pub returns-in-79 : goal.returns-in-79
unfolding what_of command_of
returns-in-79 c = search (arm letter_o)

pub returns-in-68 : goal.returns-in-68
unfolding what_of command_of
returns-in-68 c = search (arm letter_d)

pub returns-in-77 : goal.returns-in-77
unfolding what_of command_of
returns-in-77 c = search (arm letter_m)

pub returns-in-78 : goal.returns-in-78
unfolding what_of command_of
returns-in-78 c = search (arm letter_n)

pub returns-in-65 : goal.returns-in-65
unfolding what_of command_of
returns-in-65 c = search (arm letter_a)

pub returns-in-90 : goal.returns-in-90
unfolding what_of command_of
returns-in-90 c = search (arm letter_z)

pub returns-in_default : goal.returns-in_default
unfolding what_of command_of
returns-in_default c = search (last_arm letter_q, none_q)
