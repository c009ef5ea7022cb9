mod Depths
mod Found
mod Fronts
mod Leaves
mod Parts
mod RowsOfContents
mod RowsOfTags
