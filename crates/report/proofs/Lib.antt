mod Lists
mod Along
mod Stays
mod Entered
mod Leading
mod Replies
mod RightAnswers
