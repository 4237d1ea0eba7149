mod ReadGood
