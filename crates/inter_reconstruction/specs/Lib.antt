-- What must be believed of inter_reconstruction: ISO/IEC 13818-2, 7.6.4 to 7.6.7, for a macroblock of a frame picture, and
-- placing, with refusals 13 to 18 and 20, by docs/SCOPE.md. `inner` is not among it: it has what private contracts alone speak of.
pub mod Components
pub mod Motion
pub mod Frames
pub mod Macroblock
pub mod Refusals
pub mod Answers
pub mod Placing
pub mod inner
