-- What the two halls' programs answer: commands served, the sheet, the standby's answers.
pub mod Faults
pub mod Serving
pub mod Said
pub mod Sheet
pub mod Standby
pub mod Representation
pub mod ServingPromises
