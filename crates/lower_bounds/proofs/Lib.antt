mod Bordered
mod Candidates
