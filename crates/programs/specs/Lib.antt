-- Why the words of a command line give no job, and why the files of a job can't be read (`Jobs`).
pub mod Jobs
