pub mod KindLaws
pub mod QueryAlone
pub mod Ranking
pub mod RunLaws
