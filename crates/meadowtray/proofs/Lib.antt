pub mod KeptEnds
