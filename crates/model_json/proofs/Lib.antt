pub mod Causes
pub mod Chosen
pub mod Depths
mod EachRepertoire
pub mod Elements
pub mod Floats
pub mod ItemsOn
pub mod ItemsRead
pub mod KnownModels
pub mod LineFeeds
mod ModelRows
pub mod ModelsWithin
pub mod ReadBack
pub mod Values
mod WholeReport
pub mod ClaimForms
pub mod LinksRead
pub mod OneByOne
pub mod TaskNames
