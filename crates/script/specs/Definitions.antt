-- Document 01, "Line runner", as definitions: a line's work and the whole runner. Numbers, lines, output and tally are in crates/lines. No proof stands here.
pub mod Runner
