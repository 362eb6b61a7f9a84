pub mod Equality
pub mod Membership
pub mod ValueSorts
pub mod Exceptions
pub mod Storing
pub mod Lookups
pub mod Datatypes
mod RangeLaws
pub mod ArrayLaws
mod Places
mod Edits
mod SortTests
mod Keys
pub mod Choosing
pub mod Building
mod Narrow
pub mod DefaultExists
pub mod Selected
