-- Document 01, "Line runner", as definitions: numbers, lines, output, tally. What a line does is in crates/script. No proof stands here.
pub mod Numbers
pub mod Lines
pub mod Output
pub mod Tally
