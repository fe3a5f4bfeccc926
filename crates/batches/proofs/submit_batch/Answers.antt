-- `batches::submit_batch` meets its contract. Assumes nothing.
use Rattle.batches.proofs.Taking.{room_for_all, not_taken, all_taken, not_batched, all_batched}
use Rattle.batches.proofs.submit_batch.Goals as goal

pub returns-then-not-has_room : goal.returns-then-not-has_room
returns-then-not-has_room c = search (not_taken, not_batched)

pub answer_batch-requires : goal.answer_batch-requires
answer_batch-requires c = search room_for_all

pub returns : goal.returns
returns c = search (all_taken, all_batched)
