pub mod TaskLines
pub mod TextReplies
pub mod FileReplies
