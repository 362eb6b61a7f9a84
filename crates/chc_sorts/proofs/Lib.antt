mod Tables
pub mod SameSort
pub mod Apart
mod MarkLaws
mod Rows
mod Unknown
mod PassLaws
mod Knowing
mod TakenLaws
mod FieldLaws
mod ListingLaws
mod GroupLaws
pub mod KnownLaws
mod AddLaws
