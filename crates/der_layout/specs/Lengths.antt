-- How many octets the members of a tree of events have.
pub use Rattle.account_rows.specs.Lengths.{octets_in, members_in}
