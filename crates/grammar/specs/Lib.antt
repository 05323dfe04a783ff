-- What a text is: the bytes and their marks, words, how a program is written, texts. How one is read: the table of moves, the automaton.
pub mod Letters
pub mod Words
pub mod Constants
pub mod Sayable
pub mod Written
pub mod Limits
pub mod Texts
pub mod Moves
pub mod Automaton
pub mod TextLaws
pub mod TextExamples
