-- Stage two by the inputs' halves: what the two halves of an input are.
pub mod Parts
