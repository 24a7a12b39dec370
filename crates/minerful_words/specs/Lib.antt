-- What the words mean, in reading order: the commands and the options, what the text of an option means, which
-- templates and words are known, the settings, and which words a command takes.
pub mod Table
pub mod Grammars
pub mod Templates
pub mod Settings
pub mod Apps
-- Internal: what private calls say.
pub mod Rows
pub mod Steps
