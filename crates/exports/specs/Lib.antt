pub mod FileRead
pub mod QueryReplies
pub mod ReplySamples
