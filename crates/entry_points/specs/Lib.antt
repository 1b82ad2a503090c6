-- What must be believed of the C interface: the bytes of its buffers, and what its numbers mean, refusal 38 among it, by
-- docs/SCOPE.md; what the calls give is defined in the layers. `inner` is not among it: it has what private contracts alone speak of.
pub mod Layout
pub mod Entries
pub mod inner
