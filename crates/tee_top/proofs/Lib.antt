mod LogsWritten
mod Raced
