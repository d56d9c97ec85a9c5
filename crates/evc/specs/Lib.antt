-- Document 01 and what is met of document 02 as definitions, to be read from top to bottom; docs/RULES.md has the rules in words. Numbers, orders and
-- lists are the library's own: `ltb a b` asks whether a < b, `leb` whether a ≤ b, `eqb` whether a ≡ b; `cond t x y` is x where t holds, else y;
-- `get_or l i d` is what stands at place i of l, and d past its end; `pos n` is the whole number n. Each file says which heading rules it. Nothing is
-- assumed.
pub mod Answers
pub mod Tests
pub mod Table
pub mod Dequantizer
pub mod Stages
pub mod Reports
pub mod Jobs
pub mod SubBlocks
pub mod Breaks
pub mod Planes
pub mod Differences
pub mod Tiles
pub mod Calls
pub mod Numbers
pub mod Theatres
