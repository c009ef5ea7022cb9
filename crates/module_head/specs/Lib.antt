pub mod Heading
pub mod HeadingReading
pub mod ImportReading
pub mod HeadReading
pub mod HeadLaws
