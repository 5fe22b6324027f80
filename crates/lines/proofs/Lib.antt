-- Where the table of the commands has each.
mod Command
