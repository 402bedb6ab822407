mod EmptyCounts
mod EmptySpans
