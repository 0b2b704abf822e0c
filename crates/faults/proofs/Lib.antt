pub mod Buffer
pub mod Contents
pub mod Examples
pub mod Numbers
pub mod Recording
pub mod Standing
pub mod Totals
