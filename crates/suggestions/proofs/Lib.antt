mod Fronts
mod Questions
