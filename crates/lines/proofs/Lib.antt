-- The digits of a number, as the rules have them and as the library prints them.
pub mod Digits
-- Text after text.
pub mod Texts
-- The lines of such numbers, and how long they are.
pub mod Printing
pub mod Lengths
