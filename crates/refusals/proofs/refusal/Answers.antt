-- `refusals::refusal` meets its contract: of Z the facts are named, so that other lists are refused for certain.
-- Assumes nothing.
use Rattle.meaning.specs.Refusals.{refusal}
use Rattle.commands.specs.Asked.{asked_by}
use Rattle.refusals.proofs.Refuse.{refused_as, refused_first}
use Rattle.refusals.proofs.refusal.Goals as goal

pub returns-in-EndPeriod : goal.returns-in-EndPeriod
unfolding asked_by refusal
returns-in-EndPeriod c = search (refused_as, refused_first)
