mod NameCounts
