mod FirstUnfit
mod KindLaws
mod Printed
mod Shapes
mod Stages
pub mod Texts
