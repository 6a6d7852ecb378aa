mod LoopCounts
