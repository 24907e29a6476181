-- The specification, docs/SPECIFICATION.md, as definitions: first what they are written with (refusals by name, answers, lists,
-- text, digits, alphabets, base32), then its sections in their order, but the order of refusals behind them, since it is that of
-- every call; then what is promised of them: codes and texts, the demands; then the code's types as their values, and the labels.
pub mod NamedNumbers
pub mod Refusals
pub mod Detailed
pub mod Answer
pub mod Lists
pub mod Ascii
pub mod Digits
pub mod Alphabet
pub mod Base32
pub mod Varnibble
pub mod Header
pub mod Permitted
pub mod Meaning
pub mod Item
pub mod Items
pub mod Doors
pub mod Distance
pub mod Lines
pub mod Exactly
pub mod RefusalOrder
pub mod Codes
pub mod Demands
pub mod WideComposites
pub mod Representation
pub mod Labels
