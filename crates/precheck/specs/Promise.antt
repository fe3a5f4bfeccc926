-- What `submit` promises, for any bytes as the book and any bytes as the line: demands 1 and 2. The record
-- `SubmittedAs` stands in answering/specs/Promise, since the function below `submit`, which is told whether the book is
-- sound and how the line was sent, keeps the same promise. Assumes nothing.
pub use Rattle.answering.specs.Promise.{SubmittedAs, Submitted}
unfoldable pub use Rattle.answering.specs.Promise.{answer_in, lone_after, left_as_found}
