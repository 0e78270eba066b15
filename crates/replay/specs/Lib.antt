pub mod Clauses
pub mod Next
pub mod Used
pub mod Got
pub mod Differs
pub mod Replaced
pub mod Restart
pub mod Settle
