mod Lists
mod Pages
pub mod Spellings
pub mod Defaults
pub mod Separated
pub mod Lacking
pub mod Names
pub mod Levels
pub mod Parts
pub mod Descent
pub mod Queries
pub mod Rows
pub mod ExprSound
pub mod Starts
pub mod StartsExpr
pub mod StartsQuery
pub mod Ending
pub mod EndingExpr
pub mod EndingQuery
pub mod Sound
pub mod Opens
pub mod Told
pub mod ToldExpr
pub mod ToldQuery
pub mod Agrees
pub mod AgreesExpr
pub mod Meeting
pub mod MeetingCall
pub mod MeetingExpr
pub mod Local
pub mod MeetingQuery
pub mod Eventually
pub mod Shorter
pub mod New
pub mod Kept
pub mod Reaches
pub mod ExprComplete
pub mod Complete
pub mod ExprGrows
pub mod Grows
pub mod Opened
pub mod Causes
pub mod Unpassed
pub mod Refusals
mod OneRefusal
pub mod RefusalExamples
pub mod Parsed
mod Canonical
mod CanonicalReads
mod Spelt
mod SpeltText
mod SpeltStrings
mod SpeltExpr
mod CanonicalQuery
mod CanonicalOpens
mod SpeltQuery
mod Printable
mod Placed
mod Lexed
