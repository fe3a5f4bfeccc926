-- `writing::bytes::Written::as_slice` meets its contract.
use Rattle.writing.proofs.bytes.Written.as_slice.Goals as goal

pub returns-clause-bytes : goal.returns-clause-bytes
returns-clause-bytes c = c.self.view_is
