-- Digits in base 256 and 128: one more digit, and how many there are.
pub use Rattle.encodings.specs.proving.Digits.{step_256, step_128, count_step, count_most}
